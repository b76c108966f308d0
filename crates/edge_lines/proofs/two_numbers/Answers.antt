-- Two numbers by the place of the first space.
use Rattle.std.proofs.Common.{refl}
use Rattle.edge_file.specs.Text.{space}
use Rattle.edge_lines.proofs.Pairs.{two_held, two_none}
use Rattle.edge_lines.proofs.Places.{place_first, place_none}
use Rattle.edge_lines.proofs.two_numbers.Goals as goal

pub returns-in_err-space : goal.returns-in_err-space
returns-in_err-space c = rw c.from_residual.ensures (two_none _ refl (place_none space _ c.in_err-space.ensures))

pub returns-in_err-first : goal.returns-in_err-first
returns-in_err-first c =
    let (within, is, none) = c.in_ok-space.ensures in
    rw c.from_residual-in_err-first.ensures (two_held _ (place_first space _ within is none) within c.in_err-first.ensures refl)

pub returns-in_err-second : goal.returns-in_err-second
returns-in_err-second c =
    let (within, is, none) = c.in_ok-space.ensures in
    rw c.from_residual-in_err-second.ensures (two_held _ (place_first space _ within is none) within c.in_ok-first.ensures c.in_err-second.ensures)

pub returns : goal.returns
returns c =
    let (within, is, none) = c.in_ok-space.ensures in
    two_held _ (place_first space _ within is none) within c.in_ok-first.ensures c.in_ok-second.ensures
