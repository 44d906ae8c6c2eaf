-- Steps of writing a segment.
use Rattle.std.proofs.Common.{◌≡◌, ℕ, suc, ◌+◌, ◌-◌, ◌%◌, ◌<◌, ◌≤◌, Bool, true, false, List, [], ◌∷◌, ◌++◌, length, get_or, drop, map, replicate, Option, Some, None, Result, Ok, Err, refl, sym, ap, ◌∙◌, append_assoc, arith}
use Rattle.std.proofs.lemmas.List.{drop_more, drop_all, append-nil, length-append, length-map}
use Rattle.std.specs.Prelude.{OnOk}
use Rattle.std.specs.Int.{from_bool}
use Rattle.vx_model.specs.declared.encoding.EncodingId.{EncodingId}
use Rattle.vx_model.specs.Words.{joined_by}
use Rattle.vx_model.specs.CellData.{bit, u64_bytes}
use Rattle.vx_model.specs.Ty.{Ty}
use Rattle.vx_model.specs.ChunkData.{ChunkData, ChunkList, pieces_of, dict_piece, chunked_piece, list_piece, struct_piece, extension_piece}
use Rattle.vx_chunk.specs.Encoded.{encoding_of}
use Rattle.vx_chunk.proofs.Depths.{depth_rules}
use Rattle.vx_segment_writer.specs.declared.error.EncodeError.{EncodeError}
use Rattle.vx_segment_writer.specs.declared.error.EncodeError.TheVariants as errors
use Rattle.vx_segment_writer.specs.Head.{Head, head_spelling}
use Rattle.vx_segment_writer.specs.Segment.{padding_at, laid_out, count_pieces, own_buffers, buffers, buffers_below, head_of, heads, heads_below, first_of, own_refusal, refused, refused_below}
use Rattle.vx_segment_writer.specs.Encoding.{HasEncodeCause}
use Rattle.vx_segment_writer.specs.Written.{HasBuffers, IsWritten}

pub count_is : (ps : List ChunkData) → count_pieces (pieces_of ps) ≡ length ps
count_is [] = refl
count_is (p ∷ ps) = ap suc (count_is ps)

pub drop_flags : (bs : List Bool) (i : ℕ) → i < length bs → map bit (drop i bs) ≡ bit (get_or bs i false) ∷ map bit (drop (i + 1) bs)
drop_flags bs i lt = rw (drop_more bs i false lt) refl

pub drop_numbers : (ns : List ℕ) (i : ℕ) → i < length ns → joined_by u64_bytes (drop i ns) ≡ u64_bytes (get_or ns i 0) ++ joined_by u64_bytes (drop (i + 1) ns)
drop_numbers ns i lt = rw (drop_more ns i 0 lt) refl

pub bit_is : (b : Bool) → from_bool b ≡ bit b
bit_is true = refl
bit_is false = refl

-- ---- buffers one after the other

pub joins : (out a b c d e : List ℕ) → (((((out ++ a) ++ b) ++ c) ++ d) ++ e) ≡ out ++ (a ++ (b ++ (c ++ (d ++ e))))
joins out a b c d e = simp append_assoc

pub laid_out-append : (padded : Bool) (at : ℕ) (bs cs : List (List ℕ)) → laid_out padded at (bs ++ cs) ≡ laid_out padded at bs ++ laid_out padded (at + length (laid_out padded at bs)) cs
laid_out-append padded at [] cs = ap (λ (n : ℕ). laid_out padded n cs) (omega arith)
laid_out-append padded at (b ∷ bs) cs =
    let first : List ℕ = padding_at padded at ++ b in
    let rest : List ℕ = laid_out padded (at + length first) bs in
    let place : at + length first + length rest ≡ at + length (first ++ rest) = omega (arith, length-append first rest) in
    rw (laid_out-append padded (at + length first) bs cs, place) (sym (append_assoc first rest (laid_out padded (at + length (first ++ rest)) cs)))

pub no_buffers : (padded : Bool) (out lengths : List ℕ) → HasBuffers padded out out lengths lengths []
no_buffers padded out lengths = record { laid = sym (append-nil out); long = sym (append-nil lengths) }

pub one_buffer : (padded : Bool) (d e lengths b : List ℕ) (n : ℕ) → e ≡ (d ++ padding_at padded (length d)) ++ b → n ≡ length b → HasBuffers padded d e lengths (lengths ++ n ∷ []) (b ∷ [])
one_buffer padded d e lengths b n laid long =
    record {
      laid = laid ∙ append_assoc d (padding_at padded (length d)) b ∙ ap (λ (x : List ℕ). d ++ x) (sym (append-nil (padding_at padded (length d) ++ b)));
      long = ap (λ (m : ℕ). lengths ++ m ∷ []) long;
    }

map-append : (bs cs : List (List ℕ)) → map (λ b. length b) (bs ++ cs) ≡ map (λ b. length b) bs ++ map (λ b. length b) cs
map-append [] cs = refl
map-append (b ∷ bs) cs = ap (λ (x : List ℕ). length b ∷ x) (map-append bs cs)

laid_then : (padded : Bool) (d e f : List ℕ) (bs cs : List (List ℕ)) → e ≡ d ++ laid_out padded (length d) bs → f ≡ e ++ laid_out padded (length e) cs → f ≡ d ++ laid_out padded (length d) (bs ++ cs)
laid_then padded d e f bs cs one two =
    let first : List ℕ = laid_out padded (length d) bs in
    let long : length e ≡ length d + length first = ap (λ (x : List ℕ). length x) one ∙ length-append d first in
    two ∙ ap (λ (n : ℕ). e ++ laid_out padded n cs) long ∙ ap (λ (x : List ℕ). x ++ laid_out padded (length d + length first) cs) one ∙ append_assoc d first (laid_out padded (length d + length first) cs) ∙ ap (λ (x : List ℕ). d ++ x) (sym (laid_out-append padded (length d) bs cs))

pub buffers_then : (padded : Bool) (d e f l m n : List ℕ) (bs cs : List (List ℕ)) → HasBuffers padded d e l m bs → HasBuffers padded e f m n cs → HasBuffers padded d f l n (bs ++ cs)
buffers_then padded d e f l m n bs cs one two =
    record {
      laid = laid_then padded d e f bs cs one.laid two.laid;
      long = two.long ∙ ap (λ (x : List ℕ). x ++ map (λ b. length b) cs) one.long ∙ append_assoc l (map (λ b. length b) bs) (map (λ b. length b) cs) ∙ ap (λ (x : List ℕ). l ++ x) (sym (map-append bs cs));
    }

-- ---- chunks one after the other

joined-append : (ms ns : List Head) → joined_by head_spelling (ms ++ ns) ≡ joined_by head_spelling ms ++ joined_by head_spelling ns
joined-append [] ns = refl
joined-append (m ∷ ms) ns = ap (λ (x : List ℕ). head_spelling m ++ x) (joined-append ms ns) ∙ sym (append_assoc (head_spelling m) (joined_by head_spelling ms) (joined_by head_spelling ns))

pub nothing_written : (padded : Bool) (out tree : List ℕ) → IsWritten padded out out tree tree None [] []
nothing_written padded out tree = record { listed = refl; laid = sym (append-nil out); spelled = sym (append-nil tree) }

both_listed : (r s : Option EncodingId) → r ≡ None → s ≡ None → first_of r s ≡ None
both_listed None s e f = f
both_listed (Some x) s e f = absurd cc

pub written_then : (padded : Bool) (d e f t u v : List ℕ) (r s : Option EncodingId) (bs cs : List (List ℕ)) (ms ns : List Head)
    → IsWritten padded d e t u r bs ms → IsWritten padded e f u v s cs ns → IsWritten padded d f t v (first_of r s) (bs ++ cs) (ms ++ ns)
written_then padded d e f t u v r s bs cs ms ns one two =
    record {
      listed = both_listed r s one.listed two.listed;
      laid = laid_then padded d e f bs cs one.laid two.laid;
      spelled = two.spelled ∙ ap (λ (x : List ℕ). x ++ joined_by head_spelling ns) one.spelled ∙ append_assoc t (joined_by head_spelling ms) (joined_by head_spelling ns) ∙ ap (λ (x : List ℕ). t ++ x) (sym (joined-append ms ns));
    }

-- a refusal comes from the first that is refused
pub refused_first : (e : EncodeError) (r s : Option EncodingId) → HasEncodeCause r e → HasEncodeCause (first_of r s) e
refused_first (errors.EncodingNotListed id) r s h = rw h refl
refused_first errors.OutOfMemory r s h = tt

pub refused_second : (e : EncodeError) (r s : Option EncodingId) → r ≡ None → HasEncodeCause s e → HasEncodeCause (first_of r s) e
refused_second e r s none h = rw none h

-- what holds where a call was Ok
pub on_ok : {E P Q : Type 0} (r : Result (Unit {0}) E) → (P → Q) → OnOk r P → OnOk r Q
on_ok (Ok x) f h = f h
on_ok (Err e) f h = tt

-- ---- a node and what is below it

pub record Below (ctx : List EncodingId) (p : ChunkData) (r : Option EncodingId) (bs : List (List ℕ)) (ns : List Head) : Type 0 where
  refusal : refused ctx p ≡ first_of (own_refusal ctx (encoding_of p)) r
  buffers_are : buffers p ≡ own_buffers p ++ bs
  heads_are : heads ctx p ≡ head_of ctx p ∷ ns

pub under : (padded : Bool) (d e f t u v : List ℕ) (ctx : List EncodingId) (p : ChunkData) (r : Option EncodingId) (bs : List (List ℕ)) (ns : List Head) → Below ctx p r bs ns
    → IsWritten padded d e t u (own_refusal ctx (encoding_of p)) (own_buffers p) (head_of ctx p ∷ []) → IsWritten padded e f u v r bs ns
    → IsWritten padded d f t v (refused ctx p) (buffers p) (heads ctx p)
under padded d e f t u v ctx p r bs ns below own rest =
    rw (below.refusal, below.buffers_are, below.heads_are) (written_then padded d e f t u v (own_refusal ctx (encoding_of p)) r (own_buffers p) bs (head_of ctx p ∷ []) ns own rest)

pub below_dict : (ctx : List EncodingId) (p codes values : ChunkData) → p ≡ dict_piece codes values → Below ctx p (first_of (refused ctx codes) (refused ctx values)) (buffers codes ++ buffers values) (heads ctx codes ++ heads ctx values)
below_dict ctx p codes values is = record { refusal = rw is refl; buffers_are = rw is refl; heads_are = rw is refl }

pub below_chunked : (ctx : List EncodingId) (p : ChunkData) (t : Ty) (ps : ChunkList) → p ≡ chunked_piece t ps → Below ctx p (refused_below ctx ps) (buffers_below ps) (heads_below ctx ps)
below_chunked ctx p t ps is = record { refusal = rw is refl; buffers_are = rw is refl; heads_are = rw is refl }

pub below_list : (ctx : List EncodingId) (p : ChunkData) (t : Ty) (e : ChunkData) (offsets : List ℕ) (valid : List Bool) → p ≡ list_piece t e offsets valid → Below ctx p (refused ctx e) (buffers e) (heads ctx e)
below_list ctx p t e offsets valid is = record { refusal = rw is refl; buffers_are = rw is refl; heads_are = rw is refl }

pub below_struct : (ctx : List EncodingId) (p : ChunkData) (t : Ty) (ps : ChunkList) (valid : List Bool) (n : ℕ) → p ≡ struct_piece t ps valid n → Below ctx p (refused_below ctx ps) (buffers_below ps) (heads_below ctx ps)
below_struct ctx p t ps valid n is = record { refusal = rw is refl; buffers_are = rw is refl; heads_are = rw is refl }

pub below_extension : (ctx : List EncodingId) (p : ChunkData) (t : Ty) (e : ChunkData) → p ≡ extension_piece t e → Below ctx p (refused ctx e) (buffers e) (heads ctx e)
below_extension ctx p t e is = record { refusal = rw is refl; buffers_are = rw is refl; heads_are = rw is refl }

-- ---- one chunk of several

-- what is written behind the rest completes what is written of all
abbrev pub Completes : Bool → List ℕ → List ℕ → List ℕ → List ℕ → List EncodingId → List ChunkData → List ChunkData → Type 0
Completes padded out now tree tree_now ctx rest all =
    (after text : List ℕ) → IsWritten padded now after tree_now text (refused_below ctx (pieces_of rest)) (buffers_below (pieces_of rest)) (heads_below ctx (pieces_of rest))
    → IsWritten padded out after tree text (refused_below ctx (pieces_of all)) (buffers_below (pieces_of all)) (heads_below ctx (pieces_of all))

-- a refusal of the rest is one of all
abbrev pub Carries : List EncodingId → List ChunkData → List ChunkData → Type 0
Carries ctx rest all = (e : EncodeError) → HasEncodeCause (refused_below ctx (pieces_of rest)) e → HasEncodeCause (refused_below ctx (pieces_of all)) e

pub goes_on : (padded : Bool) (out now more tree tree_now tree_more : List ℕ) (ctx : List EncodingId) (ps : List ChunkData) (i : ℕ) (p : ChunkData) → i < length ps → p ≡ get_or ps i p
    → IsWritten padded now more tree_now tree_more (refused ctx p) (buffers p) (heads ctx p)
    → Completes padded out now tree tree_now ctx (drop i ps) ps → Completes padded out more tree tree_more ctx (drop (i + 1) ps) ps
goes_on padded out now more tree tree_now tree_more ctx ps i p lt is one so_far after text rest =
    so_far after text (rw (drop_more ps i p lt, ← is) (written_then padded now more after tree_now tree_more text (refused ctx p) (refused_below ctx (pieces_of (drop (i + 1) ps))) (buffers p) (buffers_below (pieces_of (drop (i + 1) ps))) (heads ctx p) (heads_below ctx (pieces_of (drop (i + 1) ps))) one rest))

pub carries_on : (ctx : List EncodingId) (ps : List ChunkData) (i : ℕ) (p : ChunkData) → i < length ps → p ≡ get_or ps i p → refused ctx p ≡ None
    → Carries ctx (drop i ps) ps → Carries ctx (drop (i + 1) ps) ps
carries_on ctx ps i p lt is none so_far e h =
    so_far e (rw (drop_more ps i p lt, ← is) (refused_second e (refused ctx p) (refused_below ctx (pieces_of (drop (i + 1) ps))) none h))

pub stops : (e : EncodeError) (ctx : List EncodingId) (ps : List ChunkData) (i : ℕ) (p : ChunkData) → i < length ps → p ≡ get_or ps i p → HasEncodeCause (refused ctx p) e
    → Carries ctx (drop i ps) ps → HasEncodeCause (refused_below ctx (pieces_of ps)) e
stops e ctx ps i p lt is h so_far =
    so_far e (rw (drop_more ps i p lt, ← is) (refused_first e (refused ctx p) (refused_below ctx (pieces_of (drop (i + 1) ps))) h))

pub is_done : (padded : Bool) (out now tree tree_now : List ℕ) (ctx : List EncodingId) (ps : List ChunkData) (i : ℕ) → length ps ≤ i
    → Completes padded out now tree tree_now ctx (drop i ps) ps
    → IsWritten padded out now tree tree_now (refused_below ctx (pieces_of ps)) (buffers_below (pieces_of ps)) (heads_below ctx (pieces_of ps))
is_done padded out now tree tree_now ctx ps i le so_far = so_far now tree_now (rw (drop_all i ps le) (nothing_written padded now tree_now))

pub ruleset count_rules = (count_is)

pub ruleset text_rules = (append_assoc, append-nil, drop_numbers)

pub ruleset padding_rules = (append_assoc, append-nil)

pub ruleset buffer_rules = (append_assoc, append-nil, length-append, one_buffer, no_buffers, bit_is, drop_flags)

pub ruleset own_rules = (no_buffers, buffers_then)

pub ruleset node_rules = (append_assoc, append-nil)

pub ruleset chunk_rules = (depth_rules)

pub ruleset segment_rules = (append_assoc, append-nil)
