-- Buffers that are read are laid out so, and what is laid out so is read; likewise the halves of a segment and the cells.
use Rattle.std.proofs.Common.{◌≡◌, ℕ, zero, suc, ◌+◌, ◌-◌, ◌%◌, ◌^◌, ◌<◌, ◌≤◌, Bool, true, false, cond, eqb, ltb, List, [], ◌∷◌, ◌++◌, length, take, drop, map, replicate, Option, Some, None, Ok, Err, refl, sym, ap, subst, ◌∙◌, append_assoc, arith}
use Rattle.std.specs.List.{AllByRecursion}
use Rattle.std.specs.Int.{w64, from_le_bytes}
use Rattle.std.proofs.lemmas.Bool.{eqb-true, ltb-false, le-ltb}
use Rattle.std.proofs.lemmas.List.{nil_from_length, length-append, length-take, length-drop, length-replicate, take-append-drop, take_at, drop_at, drop-drop}
use Rattle.vx_model.specs.CellData.{u64_bytes}
use Rattle.vx_segment_writer.specs.Segment.{padding_at, laid_out}
use Rattle.vx_byte_reader.specs.Places.{◌>>=◌}
use Rattle.vx_segment_spec.specs.Reading.{Fault, bad_grammar}
use Rattle.vx_segment_spec.specs.Segment.{set_byte, unless_set, buffer_at, buffers_at, halves_at, halves_of}
use Rattle.vx_byte_reader.proofs.FieldLaws.{IsBytes, IsBytes-take, IsBytes-drop, wide64}
use Rattle.vx_byte_reader.proofs.PlaceLaws.{bind_ok, guard_ended, ok_is}

got : {A : Type 0} (set : Option ℕ) (short : Bool) (f : Fault) (x y : A) → unless_set set (cond short (Err f) (Ok x)) ≡ Ok y → (set ≡ None) × (short ≡ false) × (x ≡ y)
got None true f x y e = absurd cc
got None false f x y e = (refl, refl, cc)
got (Some place) short f x y e = absurd cc

-- what is known of a buffer that was read
pub buffer_is : (padding at n : ℕ) (bytes b after : List ℕ) → buffer_at padding at n bytes ≡ Ok (b, after)
    → (set_byte at (take padding bytes) ≡ None) × (padding + n ≤ length bytes) × (b ≡ take n (drop padding bytes)) × (after ≡ drop (padding + n) bytes)
buffer_is padding at n bytes b after e =
    let g = got (set_byte at (take padding bytes)) (ltb (length bytes) (padding + n)) (bad_grammar (at + padding)) (take n (drop padding bytes), drop (padding + n) bytes) (b, after) e in
    (g.0, ltb-false _ _ g.1, sym (ap (λ (p : List ℕ × List ℕ). p.0) g.2), sym (ap (λ (p : List ℕ × List ℕ). p.1) g.2))

padding_zeros : (padded : Bool) (at : ℕ) → padding_at padded at ≡ replicate (length (padding_at padded at)) 0
padding_zeros true at = ap (λ (k : ℕ). replicate k 0) (sym (length-replicate ((8 - at % 8) % 8) 0))
padding_zeros false at = refl

zeros_only : (at : ℕ) (bytes : List ℕ) → set_byte at bytes ≡ None → bytes ≡ replicate (length bytes) 0
zeros_only at [] e = refl
zeros_only at (zero ∷ bytes) e = ap (λ (x : List ℕ). 0 ∷ x) (zeros_only (suc at) bytes e)
zeros_only at (suc b ∷ bytes) e = absurd cc

none_set : (at n : ℕ) → set_byte at (replicate n 0) ≡ None
none_set at zero = refl
none_set at (suc n) = none_set (suc at) n

-- the lengths of buffers
abbrev pub lengths : List (List ℕ) → List ℕ
lengths bs = map (λ b. length b) bs

pub record AreBuffers (padded : Bool) (at : ℕ) (ns bytes : List ℕ) (bs : List (List ℕ)) : Type 0 where
  pub laid : bytes ≡ laid_out padded at bs
  pub long : lengths bs ≡ ns
  pub are_bytes : AllByRecursion IsBytes bs

pub buffers_take : (padded : Bool) (at : ℕ) (ns : List ℕ) (bytes : List ℕ) (bs : List (List ℕ)) → IsBytes bytes → buffers_at padded at ns bytes ≡ Ok bs → AreBuffers padded at ns bytes bs
unfolding buffers_at
buffers_take padded at [] bytes bs fits e =
    let g = guard_ended (eqb (length bytes) 0) (bad_grammar at) [] bs e in
    let nothing : bytes ≡ [] = nil_from_length bytes (eqb-true _ _ g.0) in
    subst (λ (v : List (List ℕ)). AreBuffers padded at [] bytes v) g.1 (record { laid = nothing; long = refl; are_bytes = tt })
buffers_take padded at (n ∷ ns) bytes bs fits e =
    let k : ℕ = length (padding_at padded at) in
    let a = bind_ok (buffer_at k at n bytes) (λ first. buffers_at padded (at + (k + n)) ns first.1 >>= λ others. Ok (first.0 ∷ others)) bs e in
    let b = bind_ok (buffers_at padded (at + (k + n)) ns a.0.1) (λ others. Ok (a.0.0 ∷ others)) bs a.2 in
    let known = buffer_is k at n bytes a.0.0 a.0.1 a.1 in
    let rest_fits : IsBytes a.0.1 = rw known.3 (IsBytes-drop (k + n) bytes fits) in
    let own_fits : IsBytes a.0.0 = rw known.2 (IsBytes-take n (drop k bytes) (IsBytes-drop k bytes fits)) in
    let rest = buffers_take padded (at + (k + n)) ns a.0.1 b.0 rest_fits b.1 in
    let whole-take : length (take k bytes) ≡ k = omega (arith, length-take k bytes, known.1) in
    let zeros : take k bytes ≡ padding_at padded at = zeros_only at (take k bytes) known.0 ∙ ap (λ (m : ℕ). replicate m 0) whole-take ∙ sym (padding_zeros padded at) in
    let long : length a.0.0 ≡ n = rw known.2 (omega (arith, length-take n (drop k bytes), length-drop k bytes, known.1)) in
    let front : length (padding_at padded at ++ a.0.0) ≡ k + n = length-append (padding_at padded at) a.0.0 ∙ ap (λ (m : ℕ). k + m) long in
    let split : bytes ≡ take k bytes ++ (take n (drop k bytes) ++ drop (k + n) bytes) = sym (take-append-drop k bytes) ∙ ap (λ (x : List ℕ). take k bytes ++ x) (sym (take-append-drop n (drop k bytes)) ∙ ap (λ (x : List ℕ). take n (drop k bytes) ++ x) (drop-drop n k bytes)) in
    let named : bytes ≡ padding_at padded at ++ (a.0.0 ++ a.0.1) = split ∙ ap (λ (x : List ℕ). x ++ (take n (drop k bytes) ++ drop (k + n) bytes)) zeros ∙ ap (λ (x : List ℕ). padding_at padded at ++ (x ++ drop (k + n) bytes)) (sym known.2) ∙ ap (λ (x : List ℕ). padding_at padded at ++ (a.0.0 ++ x)) (sym known.3) in
    let made : List (List ℕ) = a.0.0 ∷ b.0 in
    let laid : bytes ≡ laid_out padded at made = named ∙ ap (λ (x : List ℕ). padding_at padded at ++ (a.0.0 ++ x)) rest.laid ∙ sym (append_assoc (padding_at padded at) a.0.0 (laid_out padded (at + (k + n)) b.0)) ∙ ap (λ (m : ℕ). (padding_at padded at ++ a.0.0) ++ laid_out padded (at + m) b.0) (sym front) in
    subst (λ (v : List (List ℕ)). AreBuffers padded at (n ∷ ns) bytes v) (ok_is made bs b.2) (record { laid = laid; long = rw (long, rest.long) refl; are_bytes = (own_fits, rest.are_bytes) })

buffer_again : (padded : Bool) (at : ℕ) (b rest : List ℕ) → buffer_at (length (padding_at padded at)) at (length b) ((padding_at padded at ++ b) ++ rest) ≡ Ok (b, rest)
buffer_again padded at b rest =
    let p : List ℕ = padding_at padded at in
    let grouped : (p ++ b) ++ rest ≡ p ++ (b ++ rest) = append_assoc p b rest in
    let none : set_byte at p ≡ None = ap (set_byte at) (padding_zeros padded at) ∙ none_set at (length p) in
    let front : length (p ++ b) ≡ length p + length b = length-append p b in
    let long : ltb (length ((p ++ b) ++ rest)) (length p + length b) ≡ false = le-ltb _ _ (omega (arith, length-append (p ++ b) rest, front)) in
    let e0 : take (length p) ((p ++ b) ++ rest) ≡ p = ap (take (length p)) grouped ∙ take_at p (b ++ rest) (length p) refl in
    let e1 : drop (length p) ((p ++ b) ++ rest) ≡ b ++ rest = ap (drop (length p)) grouped ∙ drop_at p (b ++ rest) (length p) refl in
    let e2 : drop (length p + length b) ((p ++ b) ++ rest) ≡ rest = drop_at (p ++ b) rest (length p + length b) front in
    rw (e0, none, long, e1, e2, take_at b rest (length b) refl) refl

pub buffers_again : (padded : Bool) (at : ℕ) (bs : List (List ℕ)) → buffers_at padded at (lengths bs) (laid_out padded at bs) ≡ Ok bs
unfolding buffers_at
buffers_again padded at [] = refl
buffers_again padded at (b ∷ bs) =
    let k : ℕ = length (padding_at padded at) in
    let front : length (padding_at padded at ++ b) ≡ k + length b = length-append (padding_at padded at) b in
    rw (front, buffer_again padded at b (laid_out padded (at + (k + length b)) bs), buffers_again padded (at + (k + length b)) bs) refl

-- ---- the halves

pub halves_take : (bytes : List ℕ) (x : List ℕ × List ℕ) → IsBytes bytes → halves_of bytes ≡ Ok x → (bytes ≡ x.0 ++ (x.1 ++ u64_bytes (length x.1))) × (IsBytes x.0 × IsBytes x.1)
halves_take bytes x fits e =
    let front : List ℕ = take (length bytes - 8) bytes in
    let last : List ℕ = drop (length bytes - 8) bytes in
    let n : ℕ = from_le_bytes w64 last in
    let made : List ℕ × List ℕ = (take (length front - n) front, drop (length front - n) front) in
    let g = two_guards (ltb (length bytes) 8) (bad_grammar 0) (ltb (length front) n) (bad_grammar (length front)) made x e in
    let long : 8 ≤ length bytes = ltb-false _ _ g.0 in
    let within : n ≤ length front = ltb-false _ _ g.1 in
    let number : u64_bytes n ≡ last = wide64.back last (omega (arith, length-drop (length bytes - 8) bytes, long)) (IsBytes-drop (length bytes - 8) bytes fits) in
    let count : length (drop (length front - n) front) ≡ n = omega (arith, length-drop (length front - n) front, within) in
    let split : bytes ≡ front ++ last = sym (take-append-drop (length bytes - 8) bytes) in
    let halves : front ≡ made.0 ++ made.1 = sym (take-append-drop (length front - n) front) in
    let whole : bytes ≡ made.0 ++ (made.1 ++ u64_bytes (length made.1)) = split ∙ ap (λ (y : List ℕ). y ++ last) halves ∙ append_assoc made.0 made.1 last ∙ ap (λ (y : List ℕ). made.0 ++ (made.1 ++ y)) (sym number ∙ ap u64_bytes (sym count)) in
    let front_fits : IsBytes front = IsBytes-take (length bytes - 8) bytes fits in
    subst (λ (y : List ℕ × List ℕ). (bytes ≡ y.0 ++ (y.1 ++ u64_bytes (length y.1))) × (IsBytes y.0 × IsBytes y.1)) g.2 (whole, (IsBytes-take (length front - n) front front_fits, IsBytes-drop (length front - n) front front_fits))
  where
    two_guards : {A : Type 0} (b : Bool) (d : Fault) (c : Bool) (f : Fault) (y z : A) → cond b (Err d) (cond c (Err f) (Ok y)) ≡ Ok z → (b ≡ false) × (c ≡ false) × (y ≡ z)
    two_guards true d c f y z e = absurd cc
    two_guards false d true f y z e = absurd cc
    two_guards false d false f y z e = (refl, refl, cc)

pub halves_again : (start tree : List ℕ) → length tree < 2 ^ 64 → halves_of (start ++ (tree ++ u64_bytes (length tree))) ≡ Ok (start, tree)
halves_again start tree lt =
    let last : List ℕ = u64_bytes (length tree) in
    let eight : length last ≡ 8 = refl in
    let grouped : start ++ (tree ++ last) ≡ (start ++ tree) ++ last = sym (append_assoc start tree last) in
    let total : length ((start ++ tree) ++ last) ≡ length (start ++ tree) + 8 = length-append (start ++ tree) last ∙ ap (λ (k : ℕ). length (start ++ tree) + k) eight in
    let before : length ((start ++ tree) ++ last) - 8 ≡ length (start ++ tree) = omega (arith, total) in
    let long : ltb (length ((start ++ tree) ++ last)) 8 ≡ false = le-ltb _ _ (omega (arith, total)) in
    let both : length (start ++ tree) ≡ length start + length tree = length-append start tree in
    let within : ltb (length (start ++ tree)) (length tree) ≡ false = le-ltb _ _ (omega (arith, both)) in
    let left : length (start ++ tree) - length tree ≡ length start = omega (arith, both) in
    let e0 : take (length (start ++ tree)) ((start ++ tree) ++ last) ≡ start ++ tree = take_at (start ++ tree) last (length (start ++ tree)) refl in
    let e1 : drop (length (start ++ tree)) ((start ++ tree) ++ last) ≡ last = drop_at (start ++ tree) last (length (start ++ tree)) refl in
    let inner : halves_at (length tree) (start ++ tree) ≡ Ok (start, tree) = rw (within, left, take_at start tree (length start) refl, drop_at start tree (length start) refl) refl in
    let outer : halves_of ((start ++ tree) ++ last) ≡ halves_at (length tree) (start ++ tree) = rw (long, before, e0, e1, wide64.again (length tree) lt) refl in
    ap halves_of grouped ∙ outer ∙ inner
