-- What reading comes to, by the tally of the text and the bytes that were put: a refusal (`read_refused`), or the file (`read_answered`).
use mathlib.Core.Path.{◌∙◌, ◌≡◌, ap, ap₂, refl, subst, sym}
use mathlib.Core.Option.{Option, none-ne-some, none, some}
use mathlib.Core.List.Memᴰ.{head as here}
use mathlib.Core.List.Memᴰ.{tail as there}
use mathlib.Core.List.{List, [], ◌++◌, ◌∷◌, map}
use Prim.Native.Nat.{◌%◌, ◌<◌, ◌≤◌, ℕ}
use native.Mathlib.Omega.{arith}
use lib.Dec.{T, eqb, eqb→eq, leb, leb→le}
use lib.ListN.{length}
use Rattle.lists.specs.Lists.{all, both, concat_map}
use Rattle.lists.proofs.Tests.{T-both, T_true}
use Rattle.checks.specs.Checks.{answered, checked, first_unmet, refused}
use Rattle.checks.proofs.Ended.{checked_answered, checked_refused, ended_met, ended_unmet}
use Rattle.checks.proofs.Checks.{met_all}
use Rattle.network_file.specs.File.{ends_sound, within}
use Rattle.operations.specs.Operations.{check, over}
use Rattle.printout.specs.Text.{filled, put}
use Rattle.printout.proofs.Laws.{put_whole}
use Rattle.edge_file.specs.Dimacs.{dimacs_call, edge_file, edges_call, edges_checks, edges_or, row_of}
use Rattle.edge_file.specs.Text.{Edges, Ends, edges_of, lines_of}
use Rattle.edge_file.proofs.Dimacs.{EdgesMet, edges_met, read_long}
use Rattle.edge_lines.specs.Reading.{cap, held_lines}
use Rattle.edge_read.specs.Scan.{Scan, file_length, head_bytes, line_bytes, scan_checks, scan_lines, scan_start}
use Rattle.edge_read.proofs.Files.{edge_bytes, file_bytes}
use Rattle.edge_read.proofs.Held.{held_text, held_same, held_unmet, lines_few, lines_held, sound_high}
use Rattle.edge_read.proofs.Scans.{Scanned, lines_seen, scan_lines_lem, wrapped}

-- the checks by a scan are those of what it says
by_scan : (o : Option Edges) (s : Scan) (buffer : List ℕ) → Scanned o s → first_unmet (scan_checks s (length buffer)) ≡ first_unmet (edges_checks o buffer)
unfolding first_unmet scan_checks edges_checks
by_scan none s buffer h = rw h
by_scan (some t) s buffer h = rw (h, read_long t)

held_text_lem : (o : Option Edges) (buffer : List ℕ) → ((t : Edges) → o ≡ some t → length t.edges < cap) → first_unmet (edges_checks (held_text o) buffer) ≡ first_unmet (edges_checks o buffer)
held_text_lem none buffer few = refl
held_text_lem (some t) buffer few = held_unmet t buffer (few t refl)

-- ends below 256 are written as they are
wrapped_low : (n : ℕ) → n ≤ 32 → (es : List Ends) → T (all (ends_sound n) (map row_of es)) → concat_map wrapped es ≡ concat_map edge_bytes es
unfolding all concat_map
wrapped_low n h [] t = refl
wrapped_low n h (e ∷ es) t =
    let (first, others) = (T-both (ends_sound n (row_of e)) (all (ends_sound n) (map row_of es))).0 t in
    let (a, b) = sound_high n e first in
    let one : e.one % 256 ≡ e.one = omega arith in
    let two : e.two % 256 ≡ e.two = omega arith in
    rw (one, two, wrapped_low n h es others)

-- where the checks by a scan are met its numbers are within the file's limits
pub scan_low : (s : Scan) (places : ℕ) {n : ℕ} → answered n ≡ checked (scan_checks s places) (file_length s.edges) → (s.nodes ≤ 32) × (s.edges ≤ 256)
unfolding scan_checks
scan_low s places {n} e =
    let met = (met_all (scan_checks s places)).0 (checked_answered (scan_checks s places) (file_length s.edges) n (sym e)).0 in
    let counted = eqb→eq s.edges s.count ((T_true _).1 (met (check 17 (eqb s.edges s.count)) (there (here refl)))) in
    let sizes = (T_true _).1 (met (check 3 (both (within 2 32 s.nodes) (within 0 256 s.count))) (there (there (here refl)))) in
    let (nodes, rows) = (T-both (within 2 32 s.nodes) (within 0 256 s.count)).0 sizes in
    let high = leb→le s.nodes 32 ((T-both (leb 2 s.nodes) (leb s.nodes 32)).0 nodes).1 in
    let most = leb→le s.count 256 ((T-both (leb 0 s.count) (leb s.count 256)).0 rows).1 in
    (high, omega arith)

module _ (text buffer : List ℕ) (short : length text < cap) where
  said : Scanned (held_text (edges_of text)) (scan_lines scan_start (held_lines text))
  unfolding edges_of
  said = subst (λ (o : Option Edges). Scanned o (scan_lines scan_start (held_lines text))) (lines_held (lines_of text)) (scan_lines_lem (held_lines text))

  few : (t : Edges) → edges_of text ≡ some t → length t.edges < cap
  unfolding edges_of
  few t e = omega (arith, (lines_seen (lines_of text) t e).0, lines_few text)

  scan_unmet : first_unmet (scan_checks (scan_lines scan_start (held_lines text)) (length buffer)) ≡ first_unmet (edges_checks (edges_of text) buffer)
  scan_unmet = by_scan (held_text (edges_of text)) _ buffer said ∙ held_text_lem (edges_of text) buffer few

  -- where all checks are met: the text says edges, and the file's bytes are put
  module _ (t : Edges) (is : edges_of text ≡ some t) (m : EdgesMet t buffer) where
    same : held_text (edges_of text) ≡ some t
    same = ap held_text is ∙ ap {B = Option Edges} some (held_same m)

    scan_is : Scanned (some t) (scan_lines scan_start (held_lines text))
    scan_is = subst (λ (o : Option Edges). Scanned o (scan_lines scan_start (held_lines text))) same said

    bytes_put : {s : Scan} → s ≡ scan_lines scan_start (held_lines text) → head_bytes s.nodes s.edges ++ concat_map line_bytes (held_lines text) ≡ edge_file t
    unfolding edges_of
    bytes_put {s} e =
        let high = leb→le t.nodes 32 ((T-both (leb 2 t.nodes) (leb t.nodes 32)).0 m.nodes).1 in
        ap₂ {C = List ℕ} (λ (x : Scan) (l : List ℕ). head_bytes x.nodes x.edges ++ l) (e ∙ scan_is)
        ((lines_seen (held_lines text) t (lines_held (lines_of text) ∙ same)).1 ∙ wrapped_low t.nodes high t.edges m.ends)
        ∙ sym (file_bytes t)

    long_is : {s : Scan} → s ≡ scan_lines scan_start (held_lines text) → file_length s.edges ≡ length (edge_file t)
    long_is e = ap (λ (x : Scan). file_length x.edges) (e ∙ scan_is) ∙ sym (read_long t)

  module _ {s : Scan} (is : s ≡ scan_lines scan_start (held_lines text)) where
    unmet_is : first_unmet (scan_checks s (length buffer)) ≡ first_unmet (edges_checks (edges_of text) buffer)
    unmet_is = ap (λ (x : Scan). first_unmet (scan_checks x (length buffer))) is ∙ scan_unmet

    pub read_refused : {n : ℕ} → refused n ≡ checked (scan_checks s (length buffer)) (file_length s.edges)
        → record { outcome = refused n; buffers = buffer } ≡ dimacs_call text buffer
    unfolding dimacs_call edges_call
    read_refused {n} e =
        let file = edge_file (edges_or (edges_of text)) in
        sym (ended_unmet (edges_checks (edges_of text) buffer) (length file) buffer (over file buffer) n (sym unmet_is ∙ checked_refused _ _ n (sym e)))

    pub read_answered : {n : ℕ} → answered n ≡ checked (scan_checks s (length buffer)) (file_length s.edges) → {after : List ℕ} {end : ℕ}
        → filled after end ≡ put buffer 0 (head_bytes s.nodes s.edges ++ concat_map line_bytes (held_lines text)) → record { outcome = answered n; buffers = after } ≡ dimacs_call text buffer
    unfolding first_unmet edges_checks dimacs_call edges_call
    read_answered {n} e {after} {end} p =
        let (met, long) = checked_answered (scan_checks s (length buffer)) (file_length s.edges) n (sym e) in
        go (edges_of text) refl (sym unmet_is ∙ met) long
      where
        go : (o : Option Edges) → edges_of text ≡ o → first_unmet (edges_checks (edges_of text) buffer) ≡ none → file_length s.edges ≡ n
            → record { outcome = answered n; buffers = after } ≡ dimacs_call text buffer
        go none f met long = absurd (none-ne-some 16 (sym (sym (ap (λ (o : Option Edges). first_unmet (edges_checks o buffer)) f) ∙ met)))
        go (some t) f met long =
            let m = edges_met t buffer (sym (ap (λ (o : Option Edges). first_unmet (edges_checks o buffer)) f) ∙ met) in
            let put_is : after ≡ over (edge_file t) buffer
            = ap {B = List ℕ} (λ x. x.bytes) (p ∙ ap (put buffer 0) (bytes_put t f m is) ∙ put_whole buffer (edge_file t) m.room) in
            ap₂ (λ (x : ℕ) (l : List ℕ). record { outcome = answered x; buffers = l }) (sym long ∙ long_is t f m is) put_is
            ∙ sym (ap (λ (o : Option Edges). edges_call o buffer) f ∙ ended_met (edges_checks (some t) buffer) (length (edge_file t)) buffer (over (edge_file t) buffer)
            (sym (ap (λ (o : Option Edges). first_unmet (edges_checks o buffer)) f) ∙ met))
