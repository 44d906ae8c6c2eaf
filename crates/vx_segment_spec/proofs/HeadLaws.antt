-- The nodes of a chunk are one tree, tell its buffers' lengths, and have numbers that fit their fields.
use Rattle.std.proofs.Common.{◌≡◌, ℕ, zero, suc, ◌+◌, ◌^◌, ◌<◌, ◌≤◌, Bool, true, false, cond, List, [], ◌∷◌, ◌++◌, length, map, refl, sym, ap, ◌∙◌, append_assoc, arith}
use Rattle.std.specs.List.{AllByRecursion}
use Rattle.std.proofs.lemmas.List.{append-nil, length-append, length-map}
use Rattle.std.proofs.lemmas.Bool.{and_parts}
use Rattle.vx_model.specs.declared.encoding.EncodingId.{EncodingId}
use Rattle.vx_model.specs.Words.{joined_by}
use Rattle.vx_model.specs.Places.{place_of}
use Rattle.vx_model.specs.Ty.{Ty, nullable}
use Rattle.vx_model.specs.CellData.{CellData, bit}
use Rattle.vx_model.specs.ChunkData.{ChunkData, ChunkList, plain_piece, constant_piece, dict_piece, chunked_piece, list_piece, struct_piece, extension_piece, no_pieces, part, cells, is_sound, are_sound}
use Rattle.vx_chunk.specs.Encoded.{encoding_of}
use Rattle.vx_chunk.proofs.Sound.{of_dict, of_chunked, of_list, of_struct, of_extension}
use Rattle.vx_segment_writer.specs.Head.{Head}
use Rattle.vx_segment_writer.specs.Segment.{padding_at, laid_out, validity_buffer, own_buffers, buffers, buffers_below, count_pieces, child_count, head_of, heads, heads_below}
use Rattle.vx_segment_spec.specs.Segment.{lengths_of}
use Rattle.vx_segment_spec.specs.Spelled.{are_trees, IsHead}
use Rattle.vx_segment_spec.proofs.BufferLaws.{lengths}
use Rattle.vx_segment_spec.proofs.RowsFit.{rows_fit}

-- ---- one tree

-- one node read: its children come next
node_read : (n : Head) (ns : List Head) (k j : ℕ) → k + n.children ≡ j → are_trees (suc k) (n ∷ ns) ≡ are_trees j ns
node_read n ns k j e = ap (λ (i : ℕ). are_trees i ns) e

mutual
  pub heads_tree : (ctx : List EncodingId) (p : ChunkData) (k : ℕ) (rest : List Head) → are_trees (suc k) (heads ctx p ++ rest) ≡ are_trees k rest
  heads_tree ctx (plain_piece t cs) k rest = node_read (head_of ctx (plain_piece t cs)) rest k k (omega arith)
  heads_tree ctx (constant_piece t c n) k rest = node_read (head_of ctx (constant_piece t c n)) rest k k (omega arith)
  heads_tree ctx (dict_piece codes values) k rest =
      node_read (head_of ctx (dict_piece codes values)) ((heads ctx codes ++ heads ctx values) ++ rest) k (suc (suc k)) (omega arith) ∙ ap (are_trees (suc (suc k))) (append_assoc (heads ctx codes) (heads ctx values) rest) ∙ heads_tree ctx codes (suc k) (heads ctx values ++ rest) ∙ heads_tree ctx values k rest
  heads_tree ctx (chunked_piece t ps) k rest = node_read (head_of ctx (chunked_piece t ps)) (heads_below ctx ps ++ rest) k (count_pieces ps + k) (omega arith) ∙ below_trees ctx ps k rest
  heads_tree ctx (list_piece t e offsets valid) k rest = node_read (head_of ctx (list_piece t e offsets valid)) (heads ctx e ++ rest) k (suc k) (omega arith) ∙ heads_tree ctx e k rest
  heads_tree ctx (struct_piece t ps valid n) k rest = node_read (head_of ctx (struct_piece t ps valid n)) (heads_below ctx ps ++ rest) k (count_pieces ps + k) (omega arith) ∙ below_trees ctx ps k rest
  heads_tree ctx (extension_piece t e) k rest = node_read (head_of ctx (extension_piece t e)) (heads ctx e ++ rest) k (suc k) (omega arith) ∙ heads_tree ctx e k rest

  below_trees : (ctx : List EncodingId) (ps : ChunkList) (k : ℕ) (rest : List Head) → are_trees (count_pieces ps + k) (heads_below ctx ps ++ rest) ≡ are_trees k rest
  below_trees ctx no_pieces k rest = ap (λ (j : ℕ). are_trees j rest) (omega arith)
  below_trees ctx (part p ps) k rest =
      let more : suc (count_pieces ps) + k ≡ suc (count_pieces ps + k) = omega arith in
      ap (λ (j : ℕ). are_trees j ((heads ctx p ++ heads_below ctx ps) ++ rest)) more ∙ ap (are_trees (suc (count_pieces ps + k))) (append_assoc (heads ctx p) (heads_below ctx ps) rest) ∙ heads_tree ctx p (count_pieces ps + k) (heads_below ctx ps ++ rest) ∙ below_trees ctx ps k rest

pub one_tree : (ctx : List EncodingId) (p : ChunkData) → are_trees 1 (heads ctx p) ≡ true
one_tree ctx p = ap (are_trees 1) (sym (append-nil (heads ctx p))) ∙ heads_tree ctx p 0 []

pub nothing_left : (ns : List Head) → are_trees 0 ns ≡ true → ns ≡ []
nothing_left [] e = refl
nothing_left (n ∷ ns) e = absurd cc

-- ---- the buffers' lengths

map-append : (bs cs : List (List ℕ)) → lengths (bs ++ cs) ≡ lengths bs ++ lengths cs
map-append [] cs = refl
map-append (b ∷ bs) cs = ap (λ (x : List ℕ). length b ∷ x) (map-append bs cs)

of-append : (ms ns : List Head) → lengths_of (ms ++ ns) ≡ lengths_of ms ++ lengths_of ns
of-append [] ns = refl
of-append (m ∷ ms) ns = ap (λ (x : List ℕ). m.lengths ++ x) (of-append ms ns) ∙ sym (append_assoc m.lengths (lengths_of ms) (lengths_of ns))

mutual
  pub lengths_told : (ctx : List EncodingId) (p : ChunkData) → lengths_of (heads ctx p) ≡ lengths (buffers p)
  lengths_told ctx (plain_piece t cs) = refl
  lengths_told ctx (constant_piece t c n) = refl
  lengths_told ctx (dict_piece codes values) = of-append (heads ctx codes) (heads ctx values) ∙ rw (lengths_told ctx codes, lengths_told ctx values) (sym (map-append (buffers codes) (buffers values)))
  lengths_told ctx (chunked_piece t ps) = below_told ctx ps
  lengths_told ctx (list_piece t e offsets valid) = rw (lengths_told ctx e) (sym (map-append (own_buffers (list_piece t e offsets valid)) (buffers e)))
  lengths_told ctx (struct_piece t ps valid n) = rw (below_told ctx ps) (sym (map-append (own_buffers (struct_piece t ps valid n)) (buffers_below ps)))
  lengths_told ctx (extension_piece t e) = lengths_told ctx e

  below_told : (ctx : List EncodingId) (ps : ChunkList) → lengths_of (heads_below ctx ps) ≡ lengths (buffers_below ps)
  below_told ctx no_pieces = refl
  below_told ctx (part p ps) = of-append (heads ctx p) (heads_below ctx ps) ∙ rw (lengths_told ctx p, below_told ctx ps) (sym (map-append (buffers p) (buffers_below ps)))

-- ---- numbers fit their fields

pub all_left : {A : Type 0} (P : A → Type 0) (xs ys : List A) → AllByRecursion P (xs ++ ys) → AllByRecursion P xs
all_left P [] ys h = tt
all_left P (x ∷ xs) ys h = (h.0, all_left P xs ys h.1)

pub all_right : {A : Type 0} (P : A → Type 0) (xs ys : List A) → AllByRecursion P (xs ++ ys) → AllByRecursion P ys
all_right P [] ys h = h
all_right P (x ∷ xs) ys h = all_right P xs ys h.1

all_join : {A : Type 0} (P : A → Type 0) (xs ys : List A) → AllByRecursion P xs → AllByRecursion P ys → AllByRecursion P (xs ++ ys)
all_join P [] ys h i = i
all_join P (x ∷ xs) ys h i = (h.0, all_join P xs ys h.1 i)

abbrev pub Short : List ℕ → Type 0
Short b = length b < 2 ^ 64

abbrev Low : ℕ → Type 0
Low m = m < 2 ^ 64

short_lengths : (bs : List (List ℕ)) → AllByRecursion Short bs → AllByRecursion Low (lengths bs)
short_lengths [] h = tt
short_lengths (b ∷ bs) h = (h.0, short_lengths bs h.1)

heads_some : (ctx : List EncodingId) (p : ChunkData) → 0 < length (heads ctx p)
heads_some ctx (plain_piece t cs) = omega arith
heads_some ctx (constant_piece t c n) = omega arith
heads_some ctx (dict_piece codes values) = omega arith
heads_some ctx (chunked_piece t ps) = omega arith
heads_some ctx (list_piece t e offsets valid) = omega arith
heads_some ctx (struct_piece t ps valid n) = omega arith
heads_some ctx (extension_piece t e) = omega arith

count_least : (ctx : List EncodingId) (ps : ChunkList) → count_pieces ps ≤ length (heads_below ctx ps)
count_least ctx no_pieces = omega arith
count_least ctx (part p ps) = omega (arith, length-append (heads ctx p) (heads_below ctx ps), heads_some ctx p, count_least ctx ps)

validity_count : (t : Ty) (valid : List Bool) → length (lengths (validity_buffer t valid)) ≤ 1
validity_count t valid = by_kind (nullable t)
  where
    by_kind : (b : Bool) → length (lengths (cond b (map bit valid ∷ []) [])) ≤ 1
    by_kind true = omega arith
    by_kind false = omega arith

own_count : (p : ChunkData) → length (lengths (own_buffers p)) < 2 ^ 8
own_count (plain_piece t cs) = omega arith
own_count (constant_piece t c n) = omega arith
own_count (dict_piece codes values) = omega arith
own_count (chunked_piece t ps) = omega arith
own_count (list_piece t e offsets valid) = omega (arith, validity_count t valid)
own_count (struct_piece t ps valid n) = omega (arith, validity_count t valid)
own_count (extension_piece t e) = omega arith

abbrev pub PlacesFit : List EncodingId → Type 0
PlacesFit ctx = (e : EncodingId) → place_of e ctx < 2 ^ 16

head_fits : (ctx : List EncodingId) (p : ChunkData) → PlacesFit ctx → is_sound p ≡ true → AllByRecursion Short (own_buffers p) → child_count p < 2 ^ 64 → IsHead (head_of ctx p)
head_fits ctx p places sound short few =
    record { index = places (encoding_of p); rows = rows_fit p sound; count = own_count p; lengths = short_lengths (own_buffers p) short; children = few }

mutual
  pub heads_fit : (ctx : List EncodingId) (p : ChunkData) → PlacesFit ctx → is_sound p ≡ true → AllByRecursion Short (buffers p) → length (heads ctx p) < 2 ^ 64 → AllByRecursion IsHead (heads ctx p)
  heads_fit ctx (plain_piece t cs) places sound short few = (head_fits ctx (plain_piece t cs) places sound short (omega arith), tt)
  heads_fit ctx (constant_piece t c n) places sound short few = (head_fits ctx (constant_piece t c n) places sound short (omega arith), tt)
  heads_fit ctx (dict_piece codes values) places sound short few =
      let known = of_dict codes values sound in
      let sum = length-append (heads ctx codes) (heads ctx values) in (
        head_fits ctx (dict_piece codes values) places sound tt (omega arith),
        all_join IsHead (heads ctx codes) (heads ctx values)
            (heads_fit ctx codes places known.codes_sound (all_left Short (buffers codes) (buffers values) short) (omega (arith, few, sum)))
            (heads_fit ctx values places known.values_sound (all_right Short (buffers codes) (buffers values) short) (omega (arith, few, sum))),
      )
  heads_fit ctx (chunked_piece t ps) places sound short few =
      (head_fits ctx (chunked_piece t ps) places sound tt (omega (arith, few, count_least ctx ps)), below_fit ctx ps places (of_chunked t ps sound).parts_sound short (omega (arith, few)))
  heads_fit ctx (list_piece t e offsets valid) places sound short few =
      let own : List (List ℕ) = own_buffers (list_piece t e offsets valid) in
      (head_fits ctx (list_piece t e offsets valid) places sound (all_left Short own (buffers e) short) (omega arith), heads_fit ctx e places (of_list t e offsets valid sound).elements_sound (all_right Short own (buffers e) short) (omega (arith, few)))
  heads_fit ctx (struct_piece t ps valid n) places sound short few =
      let own : List (List ℕ) = own_buffers (struct_piece t ps valid n) in
      (head_fits ctx (struct_piece t ps valid n) places sound (all_left Short own (buffers_below ps) short) (omega (arith, few, count_least ctx ps)), below_fit ctx ps places (of_struct t ps valid n sound).fields_sound (all_right Short own (buffers_below ps) short) (omega (arith, few)))
  heads_fit ctx (extension_piece t e) places sound short few =
      (head_fits ctx (extension_piece t e) places sound tt (omega arith), heads_fit ctx e places (of_extension t e sound).storage_sound short (omega (arith, few)))

  below_fit : (ctx : List EncodingId) (ps : ChunkList) → PlacesFit ctx → are_sound ps ≡ true → AllByRecursion Short (buffers_below ps) → length (heads_below ctx ps) < 2 ^ 64 → AllByRecursion IsHead (heads_below ctx ps)
  below_fit ctx no_pieces places sound short few = tt
  below_fit ctx (part p ps) places sound short few =
      let sum = length-append (heads ctx p) (heads_below ctx ps) in
      all_join IsHead (heads ctx p) (heads_below ctx ps)
      (heads_fit ctx p places (and_parts (is_sound p) _ sound).0 (all_left Short (buffers p) (buffers_below ps) short) (omega (arith, few, sum)))
      (below_fit ctx ps places (and_parts (is_sound p) _ sound).1 (all_right Short (buffers p) (buffers_below ps) short) (omega (arith, few, sum)))

-- each buffer is shorter than all of them
pub laid_short : (padded : Bool) (at : ℕ) (bs : List (List ℕ)) → length (laid_out padded at bs) < 2 ^ 64 → AllByRecursion Short bs
laid_short padded at [] h = tt
laid_short padded at (b ∷ bs) h =
    let first : List ℕ = padding_at padded at ++ b in
    let all = length-append first (laid_out padded (at + length first) bs) in
    let own = length-append (padding_at padded at) b in
    (omega (arith, h, all, own), laid_short padded (at + length first) bs (omega (arith, h, all)))
