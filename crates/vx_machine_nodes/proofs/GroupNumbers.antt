-- Numbers of rules that regroup: those that fit, and the one that is refused.
use Rattle.std.proofs.Common.{◌≡◌, ℕ, ◌-◌, ◌<◌, ◌≤◌, ◌^◌, min, Bool, true, false, List, [], ◌∷◌, Option, Some, None, refl, sym, ap, subst, ◌∙◌, inl, inr, ⊎_elim, arith}
use Rattle.std.specs.Prelude.{nat_lt, if◌then◌else◌}
use Rattle.std.proofs.lemmas.Bool.{cases_Bool}
use Rattle.std.proofs.lemmas.Bool.Decides.{nat_tests}
use Rattle.vx_path.specs.Lists.{In}
use Rattle.vx_chunk.specs.Conditions.{IsFarPast}
use Rattle.vx_chunk.specs.declared.error.ChunkError.{ChunkError}
use Rattle.vx_chunk.specs.declared.error.ChunkError.TheVariants as chunk
use Rattle.vx_regroup.specs.Refusals.{first_past, IsTold, Refuses}
use Rattle.vx_write_answer.specs.declared.error.WriteError.TheVariants.{TooLarge}
use Rattle.vx_machine_nodes.specs.Acting.{ListRefused}
use Rattle.vx_machine_node.specs.Causes.{MayCome}
use Rattle.vx_machine_node.specs.Outcome.{AllFit}
use Rattle.vx_machine_node.proofs.Fitting.{none_fit, then_fit}

fits_below : (n : ℕ) → nat_lt n (2 ^ 64) ≡ true → n < 2 ^ 64
fits_below n h = grind (arith, nat_tests)

far_above : (n : ℕ) → nat_lt n (2 ^ 64) ≡ false → 2 ^ 64 ≤ n
far_above n h = grind (arith, nat_tests)

lt_false : (n : ℕ) → 2 ^ 64 ≤ n → nat_lt n (2 ^ 64) ≡ false
lt_false n h = grind (arith, nat_tests)

later : (n : ℕ) (ns : List ℕ) → nat_lt n (2 ^ 64) ≡ true → first_past (n ∷ ns) ≡ first_past ns
later n ns h = ap (λ (b : Bool). if b then first_past ns else Some n) h

here : (n : ℕ) (ns : List ℕ) → nat_lt n (2 ^ 64) ≡ false → first_past (n ∷ ns) ≡ Some n
here n ns h = ap (λ (b : Bool). if b then first_past ns else Some n) h

some_same : (n m : ℕ) → Some n ≡ Some m → m ≡ n
some_same n m e = cc

-- all fit where none is refused
pub past_none : (ns : List ℕ) → first_past ns ≡ None → AllFit ns
past_none [] h = none_fit
past_none (n ∷ ns) h = ⊎_elim
    (λ t. then_fit n ns (fits_below n t) (past_none ns (sym (later n ns t) ∙ h)))
    (λ f. absurd (let e : Some n ≡ None = sym (here n ns f) ∙ h in cc))
    (cases_Bool (nat_lt n (2 ^ 64)))

past_some : (ns : List ℕ) (m : ℕ) → first_past ns ≡ Some m → In m ns × (2 ^ 64 ≤ m)
past_some [] m h = absurd cc
past_some (n ∷ ns) m h = ⊎_elim
    (λ t. let r = past_some ns m (sym (later n ns t) ∙ h) in (inr r.0, r.1))
    (λ f. let e : m ≡ n = some_same n m (sym (here n ns f) ∙ h) in (inl e, subst (λ z. 2 ^ 64 ≤ z) (sym e) (far_above n f)))
    (cases_Bool (nat_lt n (2 ^ 64)))

told_at : (ns : List ℕ) (o : Option ℕ) (m : ℕ) → first_past ns ≡ o → IsTold o m → (n : ℕ) × (In n ns) × (2 ^ 64 ≤ n) × (m ≡ min n (2 ^ 128 - 1))
told_at ns None m e h = absurd h
told_at ns (Some n) m e h = let p = past_some ns n e in (n, p.0, p.1, h)

-- told as it is, where it is no stand-in
pub past_refused : (ns : List ℕ) (m : ℕ) (e : ChunkError) → e ≡ chunk.TooLarge m → (m ≡ 2 ^ 128 - 1 → ⊥) → Refuses (first_past ns) e → ListRefused false ns (TooLarge m)
past_refused ns m e is other h =
    let t = told_at ns (first_past ns) m refl (subst (λ x. Refuses (first_past ns) x) is h) in
    let same : m ≡ t.0 = let far : 2 ^ 64 ≤ t.0 = t.2 in let capped : m ≡ min t.0 (2 ^ 128 - 1) = t.3 in omega (arith, capped, other, far) in
    inl (inl (subst (λ z. In z ns) (sym same) t.1, subst (λ z. 2 ^ 64 ≤ z) (sym same) t.2))

pub past_may : (ns : List ℕ) (m : ℕ) (e : ChunkError) → e ≡ chunk.TooLarge m → Refuses (first_past ns) e → MayCome (TooLarge m)
past_may ns m e is h =
    let t = told_at ns (first_past ns) m refl (subst (λ x. Refuses (first_past ns) x) is h) in
    let far : 2 ^ 64 ≤ t.0 = t.2 in
    let capped : m ≡ min t.0 (2 ^ 128 - 1) = t.3 in
    omega (arith, far, capped)

-- one number alone
pub far_refuses : (n : ℕ) (e : ChunkError) → IsFarPast n e → Refuses (first_past (n ∷ [])) e
far_refuses n (chunk.TooLarge m) h = subst (λ o. IsTold o m) (sym (here n [] (lt_false n h.0))) h.1
far_refuses n chunk.OutOfMemory h = tt

-- where none is refused, the refusal is one of memory
pub none_refuses : (ns : List ℕ) (e : ChunkError) → first_past ns ≡ None → Refuses (first_past ns) e → Refuses (first_past []) e
none_refuses ns e h r = subst (λ o. Refuses o e) h r

-- numbers that fit aren't refused
pub fit_none : (ns : List ℕ) → AllFit ns → first_past ns ≡ None
fit_none [] h = refl
fit_none (n ∷ ns) h =
    let few : n < 2 ^ 64 = h n (inl refl) in
    let below : nat_lt n (2 ^ 64) ≡ true = grind (arith, nat_tests) in
    later n ns below ∙ fit_none ns (λ m i. h m (inr i))
