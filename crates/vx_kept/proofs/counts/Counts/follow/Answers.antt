use Rattle.std.proofs.Common.{◌≡◌, suc, ◌∷◌, subst, arith}
use Rattle.vx_machine_state.specs.Acts.{shut_at}
use Rattle.vx_kept.specs.Kept.{KnowsFrom, Knows, asked_of, ready_of, kids_of}
use Rattle.vx_kept.specs.Follow.{Follows}
use Rattle.vx_kept.proofs.Following.{child_known, first_known, second_known, nothing_known}
use Rattle.vx_kept.proofs.counts.Counts.follow.Goals as goal

pub returns-in-Child : goal.returns-in-Child
returns-in-Child c = λ ks js f k. c.mark.ensures js (child_known c.args.self.now c.in-Child.child ks js (subst (λ t. Follows t ks js) c.in-Child.is f) k)

pub returns-in-Some : goal.returns-in-Some
returns-in-Some c = λ ks js f k.
    let first = c.in-Both.first in
    let x = c.mark-in-Both.new.self in
    let closed : Knows x (shut_at first ks) = c.mark-in-Both.ensures (shut_at first ks) (first_known c.args.self.now first ks k) in
    let e : suc first ≡ c.in-Some.second = omega (arith, c.in-Some.ensures) in
    c.mark-in-Some.ensures js (subst (λ z. KnowsFrom (z ∷ asked_of x) 0 (ready_of x) (kids_of x) js) e (second_known x first ks js (subst (λ t. Follows t ks js) c.in-Both.is f) closed))

pub returns-in-Nothing : goal.returns-in-Nothing
returns-in-Nothing c = λ ks js f k. nothing_known c.args.self.now ks js (subst (λ t. Follows t ks js) c.in-Nothing.is f) k
