-- Why a chunk of lists isn't split.
use Rattle.std.proofs.Common.{◌≡◌, ℕ, ◌-◌, ◌^◌, ◌≤◌, min, false, [], ◌∷◌, refl, sym, subst, inl, arith}
use Rattle.vx_split.specs.Causes.{IsPast}
use Rattle.vx_split.specs.declared.error.SplitError.{SplitError}
use Rattle.vx_split.specs.declared.error.SplitError.TheVariants as split
use Rattle.vx_write_answer.specs.Causes.{of_split}
use Rattle.vx_write_answer.specs.declared.error.WriteError.{WriteError}
use Rattle.vx_write_answer.specs.declared.error.WriteError.TheVariants.{TooLarge}
use Rattle.vx_machine_nodes.specs.Acting.{ListRefused}
use Rattle.vx_machine_node.specs.Causes.{MayCome}

-- below the greatest number it is the elements' own
pub past_elements : (n m : ℕ) (e : SplitError) → e ≡ split.TooLarge m → (m ≡ 2 ^ 128 - 1 → ⊥) → IsPast n e → ListRefused false (n ∷ []) (TooLarge m)
past_elements n m e is below h =
    let p : IsPast n (split.TooLarge m) = subst (λ x. IsPast n x) is h in
    let capped : m ≡ min n (2 ^ 128 - 1) = p.1 in
    let same : m ≡ n = omega (arith, capped, below) in
    inl (inl (inl same, subst (λ z. 2 ^ 64 ≤ z) (sym same) p.0))

pub past_may : (n m : ℕ) (e : SplitError) → e ≡ split.TooLarge m → IsPast n e → MayCome (TooLarge m)
past_may n m e is h =
    let p : IsPast n (split.TooLarge m) = subst (λ x. IsPast n x) is h in
    let far : 2 ^ 64 ≤ n = p.0 in
    let capped : m ≡ min n (2 ^ 128 - 1) = p.1 in
    omega (arith, far, capped)

-- no other refusal but of memory
other : (n : ℕ) (P : WriteError → Type 0) (e : SplitError) → ((m : ℕ) → e ≡ split.TooLarge m → ⊥) → IsPast n e → P (of_split split.OutOfMemory) → P (of_split e)
other n P split.NotStruct none h p = absurd h
other n P (split.DuplicateField name) none h p = absurd h
other n P (split.TooLarge m) none h p = absurd (none m refl)
other n P split.OutOfMemory none h p = p

pub other_elements : (n : ℕ) (e : SplitError) (x : WriteError) → ((m : ℕ) → e ≡ split.TooLarge m → ⊥) → x ≡ of_split e → IsPast n e → ListRefused false (n ∷ []) x
other_elements n e x none is h = subst (λ z. ListRefused false (n ∷ []) z) (sym is) (other n (ListRefused false (n ∷ [])) e none h tt)

pub other_may : (n : ℕ) (e : SplitError) (x : WriteError) → ((m : ℕ) → e ≡ split.TooLarge m → ⊥) → x ≡ of_split e → IsPast n e → MayCome x
other_may n e x none is h = subst (λ z. MayCome z) (sym is) (other n MayCome e none h tt)
