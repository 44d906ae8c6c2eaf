-- The splitters give the columns of structs and of lists.
use Rattle.std.proofs.Common.{◌≡◌, ℕ, zero, suc, ◌+◌, ◌<◌, Bool, true, false, List, [], ◌∷◌, ◌++◌, length, map, drop, refl, sym, ap, ap₂, ◌∙◌, subst, arith, length-append, eq-eqb}
use Rattle.std.specs.Prelude.{if◌then◌else◌, ◌==◌, ◌&&◌, not}
use Rattle.std.proofs.lemmas.Bool.{true≢false, and_parts}
use Rattle.std.proofs.lemmas.Bool.Decides.{nat_tests}
use Rattle.vx_model.specs.Words.{tail}
use Rattle.vx_model.specs.Ty.{Ty, Tys, struct, no_fields, field, fields_in, ty_eq}
use Rattle.vx_model.specs.CellData.{CellData}
use Rattle.vx_model.specs.ChunkData.{ChunkData, ChunkList, plain_piece, constant_piece, dict_piece, chunked_piece, list_piece, struct_piece, extension_piece, pieces_in, piece_type, cells, match_fields, is_sound, are_sound}
use Rattle.vx_path.specs.Path.{under}
use Rattle.vx_layout_spec.specs.Parts.{all_elements, others_of, plain_fields, field_pieces}
use Rattle.vx_rules.specs.Stream.{Chunk, stream_cells, Chunks}
use Rattle.vx_rules.specs.Columns.{Split, struct_splits, struct_columns, list_splits, list_columns, column, other_columns, head_piece}
use Rattle.vx_rules.proofs.ColumnStreams.{elements_append}
use Rattle.vx_react.specs.declared.place.Place.TheVariants.{Column}
use Rattle.vx_react.specs.Reactor.{Sent, placed, sends, state_after, sent_to}
use Rattle.vx_react.specs.Splitter.{column_outputs, split_sends, struct_splitter, struct_width, Splitting, list_splitter, list_width}
use Rattle.vx_react.specs.Statements.{columns_after, column_at, has_chunk, SoundChunks, StructsReact, ListsReact, ListsAreCounted}
use Rattle.vx_react.proofs.Reacting.{sent_appends, ended_sends}

-- ---- one chunk's columns

-- no column has a number below r, where the first has r
lower_sent : (p : List ℕ) (j r : ℕ) (ps : List ChunkData) → j < r → sent_to (Column j) (placed p r (column_outputs r ps)) ≡ []
lower_sent p j r [] l = refl
lower_sent p j r (x ∷ xs) l =
    let other : (j == r) ≡ false = grind (arith, nat_tests) in
    subst (λ b. (if b then (under p r, x) ∷ sent_to (Column j) (placed p (suc r) (column_outputs (suc r) xs)) else sent_to (Column j) (placed p (suc r) (column_outputs (suc r) xs))) ≡ [])
    (sym other) (lower_sent p j (suc r) xs (omega arith))

-- column j is the one at the place that is its number less r
one_sent : (p : List ℕ) (j r k : ℕ) (ps : List ChunkData) → j ≡ r + k → k < length ps
    → sent_to (Column j) (placed p r (column_outputs r ps)) ≡ (under p j, head_piece (drop k ps)) ∷ []
one_sent p j r k [] e l = absurd (omega arith)
one_sent p j r zero (x ∷ xs) e l =
    let here : j ≡ r = omega arith in
    subst (λ b. (if b then (under p r, x) ∷ sent_to (Column j) (placed p (suc r) (column_outputs (suc r) xs)) else sent_to (Column j) (placed p (suc r) (column_outputs (suc r) xs))) ≡ (under p j, x) ∷ [])
    (sym (eq-eqb j r here)) (ap₂ (λ (q : ℕ) (z : List Chunk). (under p q, x) ∷ z) (sym here) (lower_sent p j (suc r) xs (omega arith)))
one_sent p j r (suc k) (x ∷ xs) e l =
    let above : r < j = omega arith in
    let other : (j == r) ≡ false = grind (arith, nat_tests) in
    subst (λ b. (if b then (under p r, x) ∷ sent_to (Column j) (placed p (suc r) (column_outputs (suc r) xs)) else sent_to (Column j) (placed p (suc r) (column_outputs (suc r) xs))) ≡ (under p j, head_piece (drop k xs)) ∷ [])
    (sym other) (one_sent p j (suc r) k xs (omega arith) (omega arith))

-- ---- the columns of a stream that is split

-- each chunk has so many columns
abbrev Wide : ℕ → List Split → Type 0
Wide w [] = Unit {0}
Wide w (x ∷ xs) = (length x.1 ≡ w) × Wide w xs

drop_tail : (k : ℕ) (ps : List ChunkData) → drop k (tail ps) ≡ drop (suc k) ps
drop_tail zero [] = refl
drop_tail (suc k) [] = refl
drop_tail k (p ∷ ps) = refl

none_after : (k : ℕ) → columns_after k [] ≡ []
none_after zero = refl
none_after (suc k) = none_after k

one_after : (k : ℕ) (x : Split) (xs : List Split) → columns_after k (x ∷ xs) ≡ (x.0, drop k x.1) ∷ columns_after k xs
one_after zero x xs = refl
one_after (suc k) x xs =
    one_after k (x.0, tail x.1) (other_columns xs)
    ∙ ap (λ (z : List ChunkData). (x.0, z) ∷ columns_after k (other_columns xs)) (drop_tail k x.1)

column_sent : (k w : ℕ) (xs : List Split) → Wide w xs → k < w → sent_to (Column k) (split_sends xs) ≡ column_at k xs
column_sent k w [] h l = sym (ap (column k) (none_after k))
column_sent k w (x ∷ xs) h l =
    let wide : length x.1 ≡ w = h.0 in
    sent_appends (Column k) (placed x.0 0 (column_outputs 0 x.1)) (split_sends xs)
    ∙ ap₂ (λ (y z : List Chunk). y ++ z) (one_sent x.0 k 0 k x.1 (omega arith) (omega arith)) (column_sent k w xs h.1 l)
    ∙ sym (ap (column k) (one_after k x xs))

-- ---- structs

struct_sends : (fs : Tys) (n : Bool) (items : List Chunk) → sends (struct_splitter fs n) tt items ≡ split_sends (struct_splits fs n items)
struct_sends fs n [] = refl
struct_sends fs n (c ∷ cs) = ap (λ (z : List Sent). placed c.0 0 (column_outputs 0 (struct_columns fs n c.1)) ++ z) (struct_sends fs n cs)

matched_length : (fs : Tys) (ps : List ChunkData) (n : ℕ) → match_fields fs ps n ≡ true → length ps ≡ length (fields_in fs)
matched_length no_fields [] n h = refl
matched_length no_fields (p ∷ ps) n h = absurd (true≢false (sym h))
matched_length (field name t fs) [] n h = absurd (true≢false (sym h))
matched_length (field name t fs) (p ∷ ps) n h =
    let rest : ((length (cells p) == n) && match_fields fs ps n) ≡ true = (and_parts (ty_eq (piece_type p) t) _ h).1 in
    ap suc (matched_length fs ps n (and_parts (length (cells p) == n) _ rest).1)

plain_length : (fs : Tys) (cs : List CellData) → length (plain_fields fs cs) ≡ length (fields_in fs)
plain_length no_fields cs = refl
plain_length (field name t fs) cs = ap suc (plain_length fs (map others_of cs))

own_length : (fs : Tys) (m : Bool) (u : Ty) (ps : ChunkList) (valid : List Bool) (n : ℕ) → u ≡ struct fs m → is_sound (struct_piece u ps valid n) ≡ true → length (pieces_in ps) ≡ length (fields_in fs)
own_length fs m u ps valid n e h =
    let sound : is_sound (struct_piece (struct fs m) ps valid n) ≡ true = subst (λ z. is_sound (struct_piece z ps valid n) ≡ true) e h in
    let own : _ ≡ true = (and_parts (are_sound ps) _ sound).1 in
    matched_length fs (pieces_in ps) n (and_parts (match_fields fs (pieces_in ps) n) _ own).0

field_length : (fs : Tys) (m : Bool) (p : ChunkData) → piece_type p ≡ struct fs m → is_sound p ≡ true → length (field_pieces fs p) ≡ length (fields_in fs)
field_length fs m (plain_piece t cs) e h = plain_length fs cs
field_length fs m (constant_piece t c n) e h = plain_length fs (cells (constant_piece t c n))
field_length fs m (dict_piece codes values) e h = plain_length fs (cells (dict_piece codes values))
field_length fs m (chunked_piece t ps) e h = plain_length fs (cells (chunked_piece t ps))
field_length fs m (list_piece t es offsets valid) e h = plain_length fs (cells (list_piece t es offsets valid))
field_length fs m (extension_piece t p) e h = plain_length fs (cells (extension_piece t p))
field_length fs m (struct_piece u ps valid n) e h = own_length fs m u ps valid n e h

struct_length : (fs : Tys) (n : Bool) (p : ChunkData) → piece_type p ≡ struct fs n → is_sound p ≡ true → length (struct_columns fs n p) ≡ struct_width fs n
struct_length fs true p e h = ap suc (field_length fs true p e h)
struct_length fs false p e h = field_length fs false p e h

struct_wide : (fs : Tys) (n : Bool) (items : List Chunk) → SoundChunks (struct fs n) items → Wide (struct_width fs n) (struct_splits fs n items)
struct_wide fs n [] h = tt
struct_wide fs n (c ∷ cs) h = (struct_length fs n c.1 h.0 h.1, struct_wide fs n cs h.2)

-- whole chunks of the type are such ones
pub sound_chunks : (t : Ty) (items : List Chunk) → Chunks t items → SoundChunks t items
sound_chunks t [] h = tt
sound_chunks t (c ∷ cs) h = (h.0.typed, h.0.whole.sound, sound_chunks t cs h.1)

pub structs_react : StructsReact
structs_react fs n items h = record {
  each = struct_sends fs n items;
  ended = ended_sends (struct_splitter fs n) (λ s c. refl) tt items ∙ struct_sends fs n items;
  columns = λ k l. ap (sent_to (Column k)) (struct_sends fs n items) ∙ column_sent k (struct_width fs n) (struct_splits fs n items) (struct_wide fs n items h) l;
}

-- ---- lists

list_sends : (t : Ty) (n : Bool) (s : Splitting) (items : List Chunk) → sends (list_splitter t n) s items ≡ split_sends (list_splits t n s.first s.base items)
list_sends t n s [] = refl
list_sends t n s (c ∷ cs) =
    ap (λ (z : List Sent). placed c.0 0 (column_outputs 0 (list_columns t n s.first s.base c.1)) ++ z) (list_sends t n ((list_splitter t n).holds s c.1) cs)

list_length : (t : Ty) (n first : Bool) (from : ℕ) (p : ChunkData) → length (list_columns t n first from p) ≡ list_width n
list_length t true first from p = refl
list_length t false first from p = refl

list_wide : (t : Ty) (n first : Bool) (from : ℕ) (items : List Chunk) → Wide (list_width n) (list_splits t n first from items)
list_wide t n first from [] = tt
list_wide t n first from (c ∷ cs) = (list_length t n first from c.1, list_wide t n false (from + length (all_elements (cells c.1))) cs)

pub lists_react : ListsReact
lists_react t n items = record {
  each = list_sends t n (list_splitter t n).start items;
  ended = ended_sends (list_splitter t n) (λ s c. refl) (list_splitter t n).start items ∙ list_sends t n (list_splitter t n).start items;
  columns = λ k l. ap (sent_to (Column k)) (list_sends t n (list_splitter t n).start items)
      ∙ column_sent k (list_width n) (list_splits t n true 0 items) (list_wide t n true 0 items) l;
}

later_chunk : (t : Ty) (n : Bool) (s : Splitting) (c : Chunk) (cs : List Chunk) → (state_after (list_splitter t n) s (c ∷ cs)).first ≡ false
later_chunk t n s c [] = refl
later_chunk t n s c (d ∷ cs) = later_chunk t n ((list_splitter t n).holds s c.1) d cs

first_chunk : (t : Ty) (n : Bool) (items : List Chunk) → (state_after (list_splitter t n) (list_splitter t n).start items).first ≡ not (has_chunk items)
first_chunk t n [] = refl
first_chunk t n (c ∷ cs) = later_chunk t n (list_splitter t n).start c cs

elements_count : (t : Ty) (n : Bool) (s : Splitting) (items : List Chunk) → (state_after (list_splitter t n) s items).base ≡ s.base + length (all_elements (stream_cells items))
elements_count t n s [] = let none : s.base ≡ s.base + 0 = omega arith in none
elements_count t n s (c ∷ cs) =
    let both : length (all_elements (cells c.1 ++ stream_cells cs)) ≡ length (all_elements (cells c.1)) + length (all_elements (stream_cells cs)) =
    ap length (elements_append (cells c.1) (stream_cells cs)) ∙ length-append (all_elements (cells c.1)) (all_elements (stream_cells cs)) in
    let whole : (s.base + length (all_elements (cells c.1))) + length (all_elements (stream_cells cs)) ≡ s.base + length (all_elements (cells c.1 ++ stream_cells cs)) = omega arith in
    elements_count t n ((list_splitter t n).holds s c.1) cs ∙ whole

pub lists_are_counted : ListsAreCounted
lists_are_counted t n items = record {
  first = first_chunk t n items;
  base = elements_count t n (list_splitter t n).start items ∙ (let none : 0 + length (all_elements (stream_cells items)) ≡ length (all_elements (stream_cells items)) = omega arith in none);
}
