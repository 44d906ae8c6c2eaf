-- Pushing to a buffer, and popping from it.
use Rattle.std.proofs.Common.{◌≡◌, ℕ, ◌+◌, ◌-◌, ◌*◌, ◌<◌, ◌≤◌, Bool, true, false, List, [], ◌∷◌, ◌++◌, map, length, refl, sym, ap, ◌∙◌, subst, arith, append_assoc}
use Rattle.std.specs.Prelude.{if◌then◌else◌, nat_le}
use Rattle.std.proofs.lemmas.List.{map-append, append-nil}
use Rattle.std.proofs.lemmas.Bool.Decides.{nat_tests}
use Rattle.vx_model.specs.Words.{total_by}
use Rattle.vx_model.specs.ChunkData.{ChunkData, held}
use Rattle.vx_rules.specs.Flushes.{twice, flushed, still_held, is_full, flushes}
use Rattle.vx_regroup.specs.declared.buffered.Kept.{Kept}
use Rattle.vx_regroup.specs.Kept.{chunk_in, chunks_in, AreWeighed, BufferStands}
use Rattle.vx_regroup.specs.Refusals.{first_past}
use Rattle.vx_regroup.specs.Rules.{weights}

le_true : (a b : ℕ) → a ≤ b → nat_le a b ≡ true
le_true a b h = grind (arith, nat_tests)

le_false : (a b : ℕ) → b < a → nat_le a b ≡ false
le_false a b h = grind (arith, nat_tests)

-- ---- pushing

pub held-append : (ps : List ChunkData) (c : ChunkData) → total_by held (ps ++ (c ∷ [])) ≡ total_by held ps + held c
held-append [] c = omega arith
held-append (p ∷ ps) c = let r : total_by held (ps ++ (c ∷ [])) ≡ total_by held ps + held c = held-append ps c in omega arith

weighed-append : (ks : List Kept) (k : Kept) → AreWeighed ks → k.bytes ≡ held k.chunk → AreWeighed (ks ++ (k ∷ []))
weighed-append [] k w e = (e, tt)
weighed-append (l ∷ ks) k w e = (w.0, weighed-append ks k w.1 e)

pub chunks_in-append : (ks : List Kept) (k : Kept) → chunks_in (ks ++ (k ∷ [])) ≡ chunks_in ks ++ (k.chunk ∷ [])
chunks_in-append ks k = map-append chunk_in ks (k ∷ [])

-- the chunk `c` of so many bytes comes behind the chunks
module _ (ks : List Kept) (total : ℕ) (c : ChunkData) (bytes : ℕ) (s : BufferStands ks total) (e : bytes ≡ held c) where
  pub new_total : total + bytes ≡ total_by held (chunks_in ks ++ (c ∷ []))
  new_total = let a : total_by held (chunks_in ks ++ (c ∷ [])) ≡ total_by held (chunks_in ks) + held c = held-append (chunks_in ks) c in let b : total ≡ total_by held (chunks_in ks) = s.summed in omega arith

  module _ (more : List Kept) (sum : ℕ) (k : Kept) (pushed : more ≡ ks ++ (k ∷ [])) (chunk_is : k.chunk ≡ c) (bytes_is : k.bytes ≡ bytes) (sum_total : sum ≡ total + bytes) where
    pub more_chunks : chunks_in more ≡ chunks_in ks ++ (c ∷ [])
    more_chunks = ap chunks_in pushed ∙ chunks_in-append ks k ∙ ap (λ (d : ChunkData). chunks_in ks ++ (d ∷ [])) chunk_is

    pub more_stands : BufferStands more sum
    more_stands = record {
      weighed = subst AreWeighed (sym pushed) (weighed-append ks k s.weighed (bytes_is ∙ e ∙ ap held (sym chunk_is)));
      summed = sum_total ∙ new_total ∙ ap (total_by held) (sym more_chunks);
    }

    module _ (size : ℕ) where
      sum_held : sum ≡ total_by held (chunks_in ks ++ (c ∷ []))
      sum_held = sum_total ∙ new_total

      not_full : sum < twice size → is_full size (chunks_in ks ++ (c ∷ [])) ≡ false
      not_full h = le_false (twice size) (total_by held (chunks_in ks ++ (c ∷ []))) (subst (λ n. n < twice size) sum_held h)

      full : twice size ≤ sum → is_full size (chunks_in ks ++ (c ∷ [])) ≡ true
      full h = le_true (twice size) (total_by held (chunks_in ks ++ (c ∷ []))) (subst (λ n. twice size ≤ n) sum_held h)

      pub none_leave : sum < twice size → [] ≡ (flushes size).leaves (chunks_in ks) c
      none_leave h = ap (λ (b : Bool). if b then flushed size (chunks_in ks ++ (c ∷ [])) else []) (sym (not_full h))

      pub all_stay : sum < twice size → chunks_in more ≡ (flushes size).holds (chunks_in ks) c
      all_stay h = more_chunks ∙ ap (λ (b : Bool). if b then still_held size (chunks_in ks ++ (c ∷ [])) else chunks_in ks ++ (c ∷ [])) (sym (not_full h))

      pub some_leave : twice size ≤ sum → flushed size (chunks_in more) ≡ (flushes size).leaves (chunks_in ks) c
      some_leave h = ap (flushed size) more_chunks ∙ ap (λ (b : Bool). if b then flushed size (chunks_in ks ++ (c ∷ [])) else []) (sym (full h))

      pub some_stay : twice size ≤ sum → still_held size (chunks_in more) ≡ (flushes size).holds (chunks_in ks) c
      some_stay h = ap (still_held size) more_chunks ∙ ap (λ (b : Bool). if b then still_held size (chunks_in ks ++ (c ∷ [])) else chunks_in ks ++ (c ∷ [])) (sym (full h))

-- what is weighed at the chunk: its bytes, and the sum with them
pub weights_are : (size : ℕ) (ks : List Kept) (total : ℕ) (c : ChunkData) → BufferStands ks total → first_past (weights size (chunks_in ks) c) ≡ first_past (held c ∷ (total + held c) ∷ [])
weights_are size ks total c s = ap (λ (n : ℕ). first_past (held c ∷ n ∷ [])) (sym (new_total ks total c (held c) s refl))

-- ---- popping

-- `k` is the first of those that are held, which take more than the size
module _ (size total : ℕ) (items rest : List Kept) (k : Kept) (is : items ≡ k ∷ rest) (s : BufferStands items total) (more : size < total) where
  total_is : total ≡ held k.chunk + total_by held (chunks_in rest)
  total_is = s.summed ∙ ap (λ z. total_by held (chunks_in z)) is

  too_much : nat_le (total_by held (chunks_in (k ∷ rest))) size ≡ false
  too_much = le_false (total_by held (chunks_in (k ∷ rest))) size (subst (λ n. size < n) total_is more)

  weighed_is : (k.bytes ≡ held k.chunk) × AreWeighed rest
  weighed_is = subst AreWeighed is s.weighed

  pub first_within : k.bytes ≤ total
  first_within = let a : total ≡ held k.chunk + total_by held (chunks_in rest) = total_is in let b : k.bytes ≡ held k.chunk = weighed_is.0 in omega arith

  pub rest_stands : BufferStands rest (total - k.bytes)
  rest_stands = record {
    weighed = weighed_is.1;
    summed = (let a : total ≡ held k.chunk + total_by held (chunks_in rest) = total_is in let b : k.bytes ≡ held k.chunk = weighed_is.0 in omega arith);
  }

  pub flushed_more : (out all : List ChunkData) → out ++ flushed size (chunks_in items) ≡ all → (out ++ (k.chunk ∷ [])) ++ flushed size (chunks_in rest) ≡ all
  flushed_more out all h =
      append_assoc out (k.chunk ∷ []) (flushed size (chunks_in rest))
      ∙ ap (λ (b : Bool). out ++ (if b then [] else k.chunk ∷ flushed size (chunks_in rest))) (sym too_much)
      ∙ ap (λ z. out ++ flushed size (chunks_in z)) (sym is) ∙ h

  pub still_more : (all : List ChunkData) → still_held size (chunks_in items) ≡ all → still_held size (chunks_in rest) ≡ all
  still_more all h =
      ap (λ (b : Bool). if b then k.chunk ∷ chunks_in rest else still_held size (chunks_in rest)) (sym too_much)
      ∙ ap (λ z. still_held size (chunks_in z)) (sym is) ∙ h

none_flushed : (size : ℕ) (ps : List ChunkData) → total_by held ps ≤ size → flushed size ps ≡ []
none_flushed size [] h = refl
none_flushed size (p ∷ ps) h = ap (λ (b : Bool). if b then [] else p ∷ flushed size ps) (le_true (total_by held (p ∷ ps)) size h)

all_still : (size : ℕ) (ps : List ChunkData) → total_by held ps ≤ size → still_held size ps ≡ ps
all_still size [] h = refl
all_still size (p ∷ ps) h = ap (λ (b : Bool). if b then p ∷ ps else still_held size ps) (le_true (total_by held (p ∷ ps)) size h)

module _ (size total : ℕ) (items : List Kept) (s : BufferStands items total) (few : total ≤ size) where
  few_held : total_by held (chunks_in items) ≤ size
  few_held = subst (λ n. n ≤ size) s.summed few

  pub flushed_end : (out all : List ChunkData) → out ++ flushed size (chunks_in items) ≡ all → out ≡ all
  flushed_end out all h = sym (append-nil out) ∙ ap (λ (z : List ChunkData). out ++ z) (sym (none_flushed size (chunks_in items) few_held)) ∙ h

  pub still_end : (all : List ChunkData) → still_held size (chunks_in items) ≡ all → chunks_in items ≡ all
  still_end all h = sym (all_still size (chunks_in items) few_held) ∙ h

-- a buffer that holds more than the size isn't empty
pub not_empty : (size total : ℕ) (items : List Kept) → BufferStands items total → size < total → items ≡ [] → ⊥
not_empty size total items s more e =
    let a : total ≡ total_by held (chunks_in items) = s.summed in
    let b : total_by held (chunks_in items) ≡ 0 = ap (λ z. total_by held (chunks_in z)) e in omega arith

pub ruleset flush_rules = (first_within, rest_stands, flushed_more, still_more, not_empty)

-- ---- all

pub ruleset all_rules = (append_assoc, append-nil, map-append)
