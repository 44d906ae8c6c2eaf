use Rattle.std.proofs.Common.{◌≡◌, ◌+◌, ◌<◌, ◌≤◌, ◌++◌, [], ◌∷◌, length, sym, subst, arith}
use Rattle.vx_machine_state.specs.Acts.{count}
use Rattle.vx_kept.specs.Kept.{KnowsFrom}
use Rattle.vx_kept.proofs.Parts.{knows_few}
use Rattle.vx_kept.proofs.Keeping.{knows_more, push_leaves, front_within}
use Rattle.vx_kept.proofs.Asking.{going_start}
use Rattle.vx_kept.proofs.counts.top_up.Goals as goal

pub more-preserved : goal.more-preserved
more-preserved c = λ ks e k.
    let ns = c.more.ready in
    let asked = c.more.asked.items in
    let xs = c.more.kids.items in
    let n = c.len-in-more.result in
    let l : length ns < count ks = omega (arith, e, c.more-test.true, c.len.ensures) in
    let q : 0 + length ns ≡ n = omega (arith, c.len-in-more.ensures) in
    let p : KnowsFrom ((0 + length ns) ∷ asked) 0 (ns ++ (0 ∷ [])) (xs ++ (c.new.result ∷ [])) ks = push_leaves 0 c.new.result asked 0 ns xs ks c.new.ensures l (c.more.invariant ks e k) in
    let r : KnowsFrom (asked ++ (n ∷ [])) 0 (ns ++ (0 ∷ [])) (xs ++ (c.new.result ∷ [])) ks =
    knows_more (n ∷ asked) (asked ++ (n ∷ [])) 0 (ns ++ (0 ∷ [])) (xs ++ (c.new.result ∷ [])) ks (front_within n asked) (subst (λ z. KnowsFrom (z ∷ asked) 0 (ns ++ (0 ∷ [])) (xs ++ (c.new.result ∷ [])) ks) q p) in
    subst (λ z. KnowsFrom z 0 c.push-in-more-2.new.self c.push-in-more.new.self.items ks) (sym c.in_ok-push.ensures.items)
    (subst (λ z. KnowsFrom (asked ++ (n ∷ [])) 0 z c.push-in-more.new.self.items ks) (sym c.in_ok-push-3.ensures.ok)
    (subst (λ z. KnowsFrom (asked ++ (n ∷ [])) 0 (ns ++ (0 ∷ [])) z ks) (sym c.in_ok-push-2.ensures.items) r))

pub returns : goal.returns
returns c = λ all ks e k.
    let f : length c.more.ready ≤ count ks = knows_few c.more.asked.items 0 c.more.ready c.more.kids.items ks (c.more.invariant ks e k) in
    going_start all c.more.asked.items 0 c.more.ready c.more.kids.items ks (omega (arith, e, f, c.more-test.false, c.len.ensures)) (c.more.invariant ks e k)
