-- Bytes and what is read from them.
use Rattle.std.proofs.Common.{◌≡◌, ℕ, zero, suc, ◌+◌, ◌*◌, ◌/◌, ◌%◌, ◌^◌, ◌<◌, ◌≤◌, List, [], ◌∷◌, ◌++◌, length, take, drop, map, get_or, refl, sym, ap, ◌∙◌, arith, rules, inl, inr, append_assoc, length-append, length-drop}
use Rattle.std.specs.Prelude.{All}
use Rattle.std.specs.Int.{w32, from_le_bytes}
use Rattle.std.specs.List.{flat_map, range_with_len}
use Rattle.std.proofs.lemmas.List.FromFn.{map-range_with_len_more}
use Rattle.std.proofs.lemmas.Grind.{flat_map-append}
use Rattle.std.proofs.lemmas.Bool.{cases_lt}
use Rattle.std.proofs.lemmas.List.{get_or-take, get_or-drop, take_more, length-take-le, flat_map_more, drop-drop, append-nil}
use Rattle.std.proofs.lemmas.List.Elements.{All-head, All-tail, All-nil, All-push, All-from_recursion}
use Rattle.std.proofs.lemmas.Nat.{le_bytes_4, from_le_bytes-to_le_bytes_4}
use Rattle.std.proofs.Math.Seq.{take-add, take-length}
use Rattle.std.proofs.Math.ListN.{get_or-eq_default}
use Rattle.vx_bloom_spec.specs.Blocks.{Block}
use Rattle.vx_bloom_spec.specs.Bytes.{number_bytes, number_at, block_bytes, filter_bytes, block_at, filter_at, IsBlock, AreBlocks}

-- the bytes are numbers below 256
pub record AreBytes (bytes : List ℕ) : Type 0 where
  pub each : (i : ℕ) → get_or bytes i 0 < 256

-- the step of a loop that writes the bytes of one element after the other
pub flat_map_step : {X : Type 0} (f : X → List ℕ) (bytes : List ℕ) (xs : List X) (i : ℕ) (d : X) → i < length xs
    → (bytes ++ flat_map f (take i xs)) ++ f (get_or xs i d) ≡ bytes ++ flat_map f (take (i + 1) xs)
flat_map_step {X = X} f bytes xs i d low = flat_map_more f bytes (take i xs) (get_or xs i d) ∙ sym (ap (λ (ys : List X). bytes ++ flat_map f ys) (take_more xs i d low))

-- ---- numbers

length_window : (bytes : List ℕ) (i n : ℕ) → i + n ≤ length bytes → length (take n (drop i bytes)) ≡ n
length_window bytes i n within = length-take-le n (drop i bytes) (rw (length-drop i bytes) (omega arith))

window_byte : (bytes : List ℕ) (i n k : ℕ) → AreBytes bytes → i + n ≤ length bytes → get_or (take n (drop i bytes)) k 0 < 256
window_byte bytes i n k are within =
    elim (cases_lt k n) [
      | inl low ↦ rw (get_or-take n (drop i bytes) k 0 low, get_or-drop i bytes k 0) (are.each (i + k))
      | inr high ↦
          let short : length (take n (drop i bytes)) ≤ k = rw (length_window bytes i n within) high in
          rw (get_or-eq_default (take n (drop i bytes)) 0 short) (omega arith)
    ]

pub length-number_bytes : (n : ℕ) → length (number_bytes n) ≡ 4
unfolding number_bytes
length-number_bytes n = refl

pub number_bytes-number_at : (bytes : List ℕ) (i : ℕ) → AreBytes bytes → i + 4 ≤ length bytes
    → number_bytes (number_at bytes i) ≡ take 4 (drop i bytes)
unfolding number_bytes number_at
number_bytes-number_at bytes i are within =
    le_bytes_4 (take 4 (drop i bytes)) (from_le_bytes w32 (take 4 (drop i bytes)))
    (length_window bytes i 4 within)
    (λ k. window_byte bytes i 4 k are within)
    refl

pub same_numbers : (m n : ℕ) → m < 2 ^ 32 → n < 2 ^ 32 → number_bytes m ≡ number_bytes n → m ≡ n
unfolding number_bytes
same_numbers m n low low' e =
    sym (from_le_bytes-to_le_bytes_4 m low) ∙ ap (from_le_bytes w32) e ∙ from_le_bytes-to_le_bytes_4 n low'

-- ---- pieces of one length

same_fronts : (xs ys vs ws : List ℕ) → length xs ≡ length ys → xs ++ vs ≡ ys ++ ws → (xs ≡ ys) × (vs ≡ ws)
same_fronts [] [] vs ws len e = (refl, e)
same_fronts [] (y ∷ ys) vs ws len e = absurd (omega arith)
same_fronts (x ∷ xs) [] vs ws len e = absurd (omega arith)
same_fronts (x ∷ xs) (y ∷ ys) vs ws len e =
    let shorter : length xs ≡ length ys = omega arith in
    let others : xs ++ vs ≡ ys ++ ws = cc in
    let first : x ≡ y = cc in
    let rest = same_fronts xs ys vs ws shorter others in
    (rw (first, rest.0) refl, rest.1)

-- pieces of one length above 0, each of which can be told, can be told from what they make together
same_pieces : {X : Type 0} (f : X → List ℕ) (P : X → Type 0) (n : ℕ)
    → ((x : X) → P x → length (f x) ≡ n + 1) → ((x y : X) → P x → P y → f x ≡ f y → x ≡ y)
    → (xs ys : List X) → All P xs → All P ys → flat_map f xs ≡ flat_map f ys → xs ≡ ys
same_pieces f P n len told [] [] ps qs e = refl
same_pieces f P n len told [] (y ∷ ys) ps qs e =
    absurd (omega (arith, len y (All-head P y ys qs), length-append (f y) (flat_map f ys), ap length e))
same_pieces f P n len told (x ∷ xs) [] ps qs e =
    absurd (omega (arith, len x (All-head P x xs ps), length-append (f x) (flat_map f xs), ap length e))
same_pieces f P n len told (x ∷ xs) (y ∷ ys) ps qs e =
    let px = All-head P x xs ps in
    let py = All-head P y ys qs in
    let parts = same_fronts (f x) (f y) (flat_map f xs) (flat_map f ys) (len x px ∙ sym (len y py)) e in
    let first : x ≡ y = told x y px py parts.0 in
    let rest : xs ≡ ys = same_pieces f P n len told xs ys (All-tail P x xs ps) (All-tail P y ys qs) parts.1 in
    rw (first, rest) refl

-- ---- blocks

length_numbers : (xs : List ℕ) → length (flat_map number_bytes xs) ≡ 4 * length xs
length_numbers [] = refl
length_numbers (x ∷ xs) = rw (length-append (number_bytes x) (flat_map number_bytes xs), length-number_bytes x, length_numbers xs) (omega arith)

length-block_bytes : (block : Block) → IsBlock block → length (block_bytes block) ≡ 32
unfolding block_bytes
length-block_bytes block is = rw (length_numbers block, is.eight) refl

same_blocks : (a b : Block) → IsBlock a → IsBlock b → block_bytes a ≡ block_bytes b → a ≡ b
unfolding block_bytes
same_blocks a b is is' e =
    same_pieces number_bytes (λ lane. lane < 2 ^ 32) 3 (λ n low. length-number_bytes n) same_numbers a b is.fits is'.fits e

-- filters of the same bytes are the same
pub same_filter_bytes : (p q : List Block) → AreBlocks p → AreBlocks q → filter_bytes p ≡ filter_bytes q → p ≡ q
unfolding filter_bytes
same_filter_bytes p q are are' e = same_pieces block_bytes IsBlock 31 length-block_bytes same_blocks p q are are' e

length-filter_bytes : (p : List Block) → AreBlocks p → length (filter_bytes p) ≡ 32 * length p
unfolding filter_bytes
length-filter_bytes [] are = refl
length-filter_bytes (x ∷ xs) are =
    rw (
      length-append (block_bytes x) (flat_map block_bytes xs),
      length-block_bytes x (All-head IsBlock x xs are),
      length-filter_bytes xs (All-tail IsBlock x xs are),
    ) (omega arith)

-- how many blocks a filter's bytes have
pub count_of : (p : List Block) (bytes : List ℕ) → AreBlocks p → filter_bytes p ≡ bytes → length bytes / 32 ≡ length p
count_of p bytes are e =
    let many : length bytes ≡ 32 * length p = sym (ap (λ (b : List ℕ). length b) e) ∙ length-filter_bytes p are in
    omega arith

-- four bytes more in front
piece : (bytes : List ℕ) (i j k n : ℕ) (others : List ℕ) → AreBytes bytes → i + 4 ≡ j → k + 4 ≡ n → i + n ≤ length bytes
    → others ≡ take k (drop j bytes) → number_bytes (number_at bytes i) ++ others ≡ take n (drop i bytes)
piece bytes i j k n others are next longer within e =
    let whole : i + 4 ≤ length bytes = omega arith in
    let size : 4 + k ≡ n = omega arith in
    rw (number_bytes-number_at bytes i are whole, e, ← next, ← drop-drop 4 i bytes, ← take-add 4 k (drop i bytes), size) refl

-- what is read from 32 bytes has these bytes
pub block_bytes-block_at : (bytes : List ℕ) (i : ℕ) → AreBytes bytes → i + 32 ≤ length bytes
    → block_bytes (block_at bytes i) ≡ take 32 (drop i bytes)
unfolding block_bytes block_at
block_bytes-block_at bytes i are within =
    let here : i + 0 ≡ i = omega arith in
    rw here
    (piece bytes i (i + 4) 28 32 _ are refl refl within
    (piece bytes (i + 4) (i + 8) 24 28 _ are (omega arith) refl (omega arith)
    (piece bytes (i + 8) (i + 12) 20 24 _ are (omega arith) refl (omega arith)
    (piece bytes (i + 12) (i + 16) 16 20 _ are (omega arith) refl (omega arith)
    (piece bytes (i + 16) (i + 20) 12 16 _ are (omega arith) refl (omega arith)
    (piece bytes (i + 20) (i + 24) 8 12 _ are (omega arith) refl (omega arith)
    (piece bytes (i + 24) (i + 28) 4 8 _ are (omega arith) refl (omega arith)
    (piece bytes (i + 28) (i + 32) 0 4 [] are (omega arith) refl (omega arith) refl))))))))

-- ---- filters

byte_read : (bytes : List ℕ) (i n k : ℕ) → AreBytes bytes → k < n → get_or (take n (drop i bytes)) k 0 < 256
byte_read bytes i n k are low = rw (get_or-take n (drop i bytes) k 0 low, get_or-drop i bytes k 0) (are.each (i + k))

number_at_fits : (bytes : List ℕ) (i : ℕ) → AreBytes bytes → number_at bytes i < 2 ^ 32
unfolding number_at
number_at_fits bytes i are =
    omega (
      arith,
      byte_read bytes i 4 0 are (omega arith),
      byte_read bytes i 4 1 are (omega arith),
      byte_read bytes i 4 2 are (omega arith),
      byte_read bytes i 4 3 are (omega arith),
    )

pub IsBlock-block_at : (bytes : List ℕ) (i : ℕ) → AreBytes bytes → IsBlock (block_at bytes i)
unfolding block_at
IsBlock-block_at bytes i are =
    let fit : (lane : ℕ) → number_at bytes (i + 4 * lane) < 2 ^ 32 = λ lane. number_at_fits bytes (i + 4 * lane) are in
    record {
      eight = refl;
      fits = All-from_recursion (λ lane. lane < 2 ^ 32) (block_at bytes i)
          (fit 0, (fit 1, (fit 2, (fit 3, (fit 4, (fit 5, (fit 6, (fit 7, tt))))))));
    }

-- the first blocks of the bytes
pub record BlocksOf (bytes : List ℕ) (count : ℕ) (blocks : List Block) : Type 0 where
  pub spell : filter_bytes blocks ≡ take (32 * count) bytes
  pub sound : AreBlocks blocks
  pub read : blocks ≡ map (λ place. block_at bytes (32 * place)) (range_with_len 0 count)
  pub many : length blocks ≡ count

pub blocks_begin : (bytes : List ℕ) → BlocksOf bytes 0 []
unfolding filter_bytes
blocks_begin bytes = record { spell = refl; sound = All-nil IsBlock; read = refl; many = refl }

pub blocks_more : (bytes : List ℕ) (count : ℕ) (blocks : List Block) → AreBytes bytes → 32 * count + 32 ≤ length bytes
    → BlocksOf bytes count blocks → BlocksOf bytes (count + 1) (blocks ++ block_at bytes (32 * count) ∷ [])
unfolding filter_bytes
blocks_more bytes count blocks are within so_far =
    let next : 32 * (count + 1) ≡ 32 * count + 32 = omega arith in
    record {
      spell =
          flat_map-append block_bytes blocks (block_at bytes (32 * count) ∷ [])
          ∙ ap (λ (rest : List ℕ). flat_map block_bytes blocks ++ rest) (append-nil (block_bytes (block_at bytes (32 * count))))
          ∙ rw (so_far.spell, block_bytes-block_at bytes (32 * count) are within, next, take-add (32 * count) 32 bytes) refl;
      sound = All-push IsBlock blocks (block_at bytes (32 * count)) so_far.sound (IsBlock-block_at bytes (32 * count) are);
      read =
          ap (λ (bs : List Block). bs ++ block_at bytes (32 * count) ∷ []) so_far.read
          ∙ sym (map-range_with_len_more (λ place. block_at bytes (32 * place)) 0 count count (omega arith));
      many = rw (length-append blocks (block_at bytes (32 * count) ∷ []), so_far.many) refl;
    }

pub all_read : (bytes : List ℕ) (count : ℕ) (blocks : List Block) → length bytes ≡ 32 * count → BlocksOf bytes count blocks
    → filter_bytes blocks ≡ bytes
all_read bytes count blocks e read = read.spell ∙ ap (λ n. take n bytes) (sym e) ∙ take-length bytes

pub all_spelled : (bytes : List ℕ) (count : ℕ) (blocks : List Block) → length bytes ≡ 32 * count → BlocksOf bytes count blocks
    → blocks ≡ filter_at bytes
unfolding filter_at
all_spelled bytes count blocks e read =
    let many : count ≡ length bytes / 32 = omega arith in
    read.read ∙ ap (λ n. map (λ place. block_at bytes (32 * place)) (range_with_len 0 n)) many

pub ruleset block_rules = (append_assoc, flat_map_step)

pub ruleset filter_rules = (append_assoc, flat_map_step)

pub ruleset blocks_rules = (all_read, all_spelled)
