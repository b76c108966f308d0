-- What the printout of a network is given: a file that meets all checks, with its sizes and what the checks say of them, and whose network
-- has a tree.
use Rattle.std.specs.Prelude.{◌≡◌, List, ◌≤◌, ℕ, T}
use Rattle.std.proofs.Math.Option.{none}
use Rattle.checks.specs.Checks.{first_unmet}
use Rattle.fields.specs.Fields.{sizes_in}
use Rattle.fields.specs.declared.Header.{Header}
use Rattle.network_file.specs.File.{file_checks, sizes_of}
use Rattle.operations.specs.Operations.{layouts_in, some_tree}

pub record Given (f : List ℕ) (h : Header) : Type 0 where
  pub met : first_unmet (file_checks f) ≡ none
  pub sizes : sizes_in h ≡ sizes_of f
  pub low : 2 ≤ h.n
  pub high : h.n ≤ 32
  pub some : 1 ≤ h.k
  pub criteria : h.k ≤ 4
  pub tree : T (some_tree (layouts_in f))
