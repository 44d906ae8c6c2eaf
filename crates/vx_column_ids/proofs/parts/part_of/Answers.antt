use Rattle.std.proofs.Common.{ℕ, List, sym, subst, ap, ◌∙◌}
use Rattle.std.specs.FinMap as map
use Rattle.vx_sequence.specs.Part.{CanPart, left_of, parted}
use Rattle.vx_machine_ids.specs.Stock.{none}
use Rattle.vx_machine_ids.specs.Balance.{Owned, Moved, Exact}
use Rattle.vx_part_laws.specs.Parts.{stock_of, paths_of}
use Rattle.vx_part_laws.proofs.PartLaws.{held_can_part, part_is_exact, part_is_owned, part_leaves}
use Rattle.vx_column_ids.proofs.parts.part_of.Goals as goal

pub part-requires : goal.part-requires
part-requires c =
    subst (λ (ids : List (List ℕ)). CanPart c.args.universe.now (paths_of ids c.args.eof)) (sym c.as_slice.ensures.value) (held_can_part c.args.universe.now c.args.ids.items c.args.eof c.requires)

pub invariant_of-result-clause-owned : goal.invariant_of-result-clause-owned
invariant_of-result-clause-owned c =
    subst (λ v. Owned v (stock_of c.args.ids.items c.args.eof)) (sym (c.in-Ok.ensures.ok ∙ ap (λ (xs : List (List ℕ)). parted c.args.universe.now map.empty (paths_of xs c.args.eof)) c.as_slice.ensures.value))
    (part_is_owned c.args.universe.now c.args.ids.items c.args.eof c.requires)

pub invariant_of-result-clause-exact : goal.invariant_of-result-clause-exact
invariant_of-result-clause-exact c =
    subst (λ v. Exact v (stock_of c.args.ids.items c.args.eof)) (sym (c.in-Ok.ensures.ok ∙ ap (λ (xs : List (List ℕ)). parted c.args.universe.now map.empty (paths_of xs c.args.eof)) c.as_slice.ensures.value))
    (part_is_exact c.args.universe.now c.args.ids.items c.args.eof (held_can_part c.args.universe.now c.args.ids.items c.args.eof c.requires))

pub returns-in-Ok-clause-moved : goal.returns-in-Ok-clause-moved
returns-in-Ok-clause-moved c =
    subst (λ v. Moved c.args.universe.now v (stock_of c.args.ids.items c.args.eof) none) (sym (c.in-Ok.ensures.left ∙ ap (λ (xs : List (List ℕ)). left_of c.args.universe.now (paths_of xs c.args.eof)) c.as_slice.ensures.value))
    (part_leaves c.args.universe.now c.args.ids.items c.args.eof c.requires)
