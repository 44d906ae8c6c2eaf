-- Bytes that are kept behind others, and lines.
use Rattle.std.proofs.Common.{◌≡◌, ◌==◌, ℕ, ◌+◌, ◌-◌, ◌≤◌, List, ◌++◌, length, take, sym, ap, subst, ◌∙◌, arith}
use Rattle.std.specs.Prelude.{min}
use Rattle.std.specs.List.{position_or_len, before_first}
use Rattle.std.proofs.lemmas.List.{length-take, take_at, take_min, take_all}
use Rattle.std.proofs.Math.Seq.{take-append-add}

-- as many more as there is room for
more : (old bytes behind : List ℕ) (len count : ℕ) → length old ≡ len → len ≤ 64 → count ≡ min (64 - len) (length bytes) → take (len + count) (old ++ (take count bytes ++ behind)) ≡ take 64 (old ++ bytes)
more old bytes behind len count is fits room =
    let counted : length (take count bytes) ≡ count = omega (arith, length-take count bytes, room) in
    let whole : length old + (64 - len) ≡ 64 = omega (arith, is, fits) in
    subst (λ (n : ℕ). take (n + count) (old ++ (take count bytes ++ behind)) ≡ old ++ take count (take count bytes ++ behind)) is (take-append-add old (take count bytes ++ behind) count)
    ∙ (ap (λ (r : List ℕ). old ++ r) (take_at (take count bytes) behind count counted ∙ subst (λ (n : ℕ). take n bytes ≡ take (64 - len) bytes) (sym room) (take_min (64 - len) bytes))
    ∙ sym (subst (λ (n : ℕ). take n (old ++ bytes) ≡ old ++ take (64 - len) bytes) whole (take-append-add old bytes (64 - len))))

pub kept_more : (kept bytes behind : List ℕ) (len count : ℕ) → length kept ≡ 64 → len ≤ 64 → count ≡ min (length bytes) (64 - len) → take (len + count) (take len kept ++ (take count bytes ++ behind)) ≡ take 64 (take len kept ++ bytes)
kept_more kept bytes behind len count sized fits room =
    more (take len kept) bytes behind len count (omega (arith, length-take len kept, sized, fits)) fits (omega (arith, room))

-- a text without an end of a line is one line
pub whole_line : (text : List ℕ) → position_or_len (λ b. b == 10) text ≡ length text → before_first (λ b. b == 10) text ≡ text
whole_line text none = take_all (position_or_len (λ b. b == 10) text) text (omega (arith, none))
