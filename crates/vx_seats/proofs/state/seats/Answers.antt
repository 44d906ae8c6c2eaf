use Rattle.std.proofs.Common.{◌≡◌, ◌∙◌, ◌++◌, ◌∷◌, [], ap, sym, rules}
use Rattle.std.proofs.lemmas.List.{map_push}
use Rattle.std.proofs.lemmas.List.Elements.{All-push}
use Rattle.vx_seats.proofs.Ranges.{range_zero}
use Rattle.vx_seats.proofs.state.seats.Goals as goal

pub loop-column-preserved : goal.loop-column-preserved
loop-column-preserved g c = (
  (search rules, search rules, search rules, search rules),
  (search rules, search rules, search rules, search rules),
  search rules,
  search rules,
  rw c.in_default.ensures.items (map_push (λ s. s.column) c.loop-column.seats.items _ ∙ ap (λ xs. xs ++ c.loop-column.column ∷ []) c.loop-column.invariant.4 ∙ sym (range_zero c.loop-column.column)),
  rw c.in_default.ensures.items (All-push (λ s. (s.writes.amount ≡ 0) × (s.faults.amount ≡ 0) × (s.made.amount ≡ 0) × (s.seen.amount ≡ 0)) c.loop-column.seats.items _ c.loop-column.invariant.5 (search rules)),
)
