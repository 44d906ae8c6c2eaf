use Rattle.std.proofs.Common.{◌≡◌, ◌∙◌, ◌++◌, ℕ, List, [], ◌∷◌, length, ap, sym, arith, length-append, false}
use Rattle.vx_path.specs.Path.{eof_path, under}
use Rattle.vx_sequence.specs.Universe.{IsActive, root, only, released}
use Rattle.vx_sequence.proofs.Sets.{is_inserted}
use Rattle.vx_sequence.proofs.Uses.{only_open, open_active}
use Rattle.vx_calls.proofs.ids.an_id_makes_ids.Goals as goal

-- the one id that was made
lone : (ids : List (List ℕ)) (id made : List ℕ) → made ∷ [] ≡ ids ++ (id ∷ []) → id ≡ made
lone [] id made e = cc
lone (i ∷ ids) id made e = absurd (omega (arith, ap length e, length-append ids (id ∷ [])))

first_active : IsActive (only root) (eof_path root)
first_active = open_active (only root) (eof_path root) (only_open root)

pub make_ids-requires : goal.make_ids-requires
make_ids-requires g c =
    let made = rw c.expect-universe.ensures at c.root.ensures.root in rw (c.new-order.ensures.universe, c.downgrade.ensures, made.0, made.1) first_active

pub release-requires : goal.release-requires
release-requires g c =
    let active = rw c.expect-ids.ensures at c.make_ids.ensures.active in
    let ids = rw c.expect-ids.ensures at c.make_ids.ensures.ids in
    let popped = rw c.expect-id.ensures at c.pop.ensures in
    rw (active, lone c.pop.new.self.items c.expect-id.result (under c.downgrade.result 0) (sym ids ∙ popped.items))
    (is_inserted (released c.new-order.result.universe c.downgrade.result) (under c.downgrade.result 0) false)
