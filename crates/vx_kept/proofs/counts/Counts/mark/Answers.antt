use Rattle.std.proofs.Common.{◌≡◌, ◌==◌, ◌∷◌, true, sym, ap, subst, ◌∙◌}
use Rattle.std.specs.List.{list_any}
use Rattle.vx_kept.specs.Kept.{KnowsFrom, asked_of, ready_of, kids_of}
use Rattle.vx_kept.proofs.Parts.{in_any, knows_roll}
use Rattle.vx_kept.proofs.Keeping.{knows_more, there_within, front_within}
use Rattle.vx_kept.proofs.counts.Counts.mark.Goals as goal

pub returns-then-contains : goal.returns-then-contains
returns-then-contains c = λ ks k.
    let x = c.args.self.now in
    let h : list_any (λ y. y == c.args.child) (asked_of x) ≡ true = ap (list_any (λ y. y == c.args.child)) (sym c.deref.ensures.value) ∙ sym c.contains.ensures.value ∙ c.if-contains.true in
    knows_more (c.args.child ∷ asked_of x) (asked_of x) 0 (ready_of x) (kids_of x) ks (there_within c.args.child (asked_of x) (in_any c.args.child (asked_of x) h)) k

pub returns-in_default : goal.returns-in_default
returns-in_default c = λ ks k.
    let x = c.args.self.now in
    knows_roll (record { ready = ready_of x; asked = c.push.new.self; kids = _ }) ks
    (subst (λ z. KnowsFrom z 0 (ready_of x) (kids_of x) ks) (sym c.in_default.ensures.items)
    (knows_more (c.args.child ∷ asked_of x) _ 0 (ready_of x) (kids_of x) ks (front_within c.args.child (asked_of x)) k))
