use Rattle.std.proofs.Common.{List, ℕ, sym, ap, ◌∙◌, Some, Bor}
use Rattle.std.specs.Option.{option_map}
use Rattle.std.proofs.lemmas.Option.{slice_get-map, slice_get-get_or, slice_get_past}
use Rattle.egl_names.proofs.RowLaws.{found_in_row, without_row}
use Rattle.egl_names.proofs.names.place_of.Goals as goal

pub returns-in-Some : goal.returns-in-Some
returns-in-Some c =
    let h = c.in-Some.ensures.lookup in
    c.first_at.ensures
    ∙ found_in_row _ _ c.args.text.now c.in-Some.places.now.now c.requires
    (slice_get-map (λ (r : Bor (List ℕ)). r.now) c.args.rows.now _ ∙ ap (option_map (λ (r : Bor (List ℕ)). r.now)) (slice_get-get_or c.args.rows.now _ c.in-Some.places.now h.3.0 ∙ ap Some (sym h.1)))

pub returns-in-None : goal.returns-in-None
returns-in-None c =
    let h = c.in-None.ensures.lookup in
    without_row _ _ c.args.text.now c.requires
    (slice_get-map (λ (r : Bor (List ℕ)). r.now) c.args.rows.now _ ∙ ap (option_map (λ (r : Bor (List ℕ)). r.now)) (slice_get_past c.args.rows.now _ h.3))
