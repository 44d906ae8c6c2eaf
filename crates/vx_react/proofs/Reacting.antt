-- What reactors send at chunks joined, at the last chunk, and to one place; regrouping and collecting.
use Rattle.std.proofs.Common.{◌≡◌, ℕ, suc, Bool, true, false, List, [], ◌∷◌, ◌++◌, refl, sym, ap, ap₂, ◌∙◌, append_assoc}
use Rattle.std.specs.Prelude.{if◌then◌else◌}
use Rattle.std.proofs.lemmas.List.{append-nil}
use Rattle.vx_model.specs.Ty.{Ty}
use Rattle.vx_model.specs.ChunkData.{ChunkData}
use Rattle.vx_path.specs.Path.{under}
use Rattle.vx_rules.specs.Stream.{Chunk, chunk_paths}
use Rattle.vx_rules.specs.Regroup.{Rule, ranked, regrouped}
use Rattle.vx_rules.specs.Blocks.{blocks}
use Rattle.vx_rules.specs.Flushes.{flushes, concatenated, chunk_pieces, last_path, collected}
use Rattle.vx_react.specs.declared.place.Place.TheVariants.{Child}
use Rattle.vx_react.specs.Reactor.{Output, Reactor, Sent, placed, sends, state_after, reactions, same_place, sent_to, child_outputs, child_sends, reacting, collector}
use Rattle.vx_react.specs.Statements.{SentAppends, RegroupingReacts, CollectingReacts}

pub sent_appends : SentAppends
sent_appends p [] ys = refl
sent_appends p (x ∷ xs) ys = go (same_place p x.0) (sent_appends p xs ys)
  where
    go : (b : Bool) → sent_to p (xs ++ ys) ≡ sent_to p xs ++ sent_to p ys
        → (if b then x.1 ∷ sent_to p (xs ++ ys) else sent_to p (xs ++ ys)) ≡ (if b then x.1 ∷ sent_to p xs else sent_to p xs) ++ sent_to p ys
    go true e = ap (λ (z : List Chunk). x.1 ∷ z) e
    go false e = e

-- ---- chunks joined

pub sends-append : {S : Type 0} (r : Reactor S) (s : S) (xs ys : List Chunk) → sends r s (xs ++ ys) ≡ sends r s xs ++ sends r (state_after r s xs) ys
sends-append r s [] ys = refl
sends-append r s (c ∷ cs) ys =
    ap (λ (z : List Sent). placed c.0 0 (r.gives s c.1 false) ++ z) (sends-append r (r.holds s c.1) cs ys)
    ∙ sym (append_assoc (placed c.0 0 (r.gives s c.1 false)) (sends r (r.holds s c.1) cs) (sends r (state_after r (r.holds s c.1) cs) ys))

pub state_after-append : {S : Type 0} (r : Reactor S) (s : S) (xs ys : List Chunk) → state_after r s (xs ++ ys) ≡ state_after r (state_after r s xs) ys
state_after-append r s [] ys = refl
state_after-append r s (c ∷ cs) ys = state_after-append r (r.holds s c.1) cs ys

-- chunks that others follow are none the last
pub reactions-append : {S : Type 0} (r : Reactor S) (s : S) (xs : List Chunk) (c : Chunk) (cs : List Chunk) (ended : Bool)
    → reactions r s (xs ++ (c ∷ cs)) ended ≡ sends r s xs ++ reactions r (state_after r s xs) (c ∷ cs) ended
reactions-append r s [] c cs ended = refl
reactions-append r s (x ∷ []) c cs ended =
    ap (λ (z : List Sent). z ++ reactions r (r.holds s x.1) (c ∷ cs) ended) (sym (append-nil (placed x.0 0 (r.gives s x.1 false))))
reactions-append r s (x ∷ y ∷ xs) c cs ended =
    ap (λ (z : List Sent). placed x.0 0 (r.gives s x.1 false) ++ z) (reactions-append r (r.holds s x.1) (y ∷ xs) c cs ended)
    ∙ sym (append_assoc (placed x.0 0 (r.gives s x.1 false)) (sends r (r.holds s x.1) (y ∷ xs)) (reactions r (state_after r (r.holds s x.1) (y ∷ xs)) (c ∷ cs) ended))

-- of an open stream the newest chunk waits
pub open_sends : {S : Type 0} (r : Reactor S) (s : S) (items : List Chunk) (c : Chunk) → reactions r s (items ++ (c ∷ [])) false ≡ sends r s items
open_sends r s items c = reactions-append r s items c [] false ∙ append-nil (sends r s items)

-- one that gives the same at the last chunk as at others
pub ended_sends : {S : Type 0} (r : Reactor S) → ((s : S) (c : ChunkData) → r.gives s c true ≡ r.gives s c false) → (s : S) (items : List Chunk) → reactions r s items true ≡ sends r s items
ended_sends r same s [] = refl
ended_sends r same s (c ∷ []) = ap (λ (z : List Output). placed c.0 0 z) (same s c.1) ∙ sym (append-nil (placed c.0 0 (r.gives s c.1 false)))
ended_sends r same s (c ∷ d ∷ cs) = ap (λ (z : List Sent). placed c.0 0 (r.gives s c.1 false) ++ z) (ended_sends r same (r.holds s c.1) (d ∷ cs))

-- ---- regrouping

child_placed : (p : List ℕ) (r : ℕ) (cs : List ChunkData) → placed p r (child_outputs cs) ≡ child_sends (ranked p r cs)
child_placed p r [] = refl
child_placed p r (c ∷ cs) = ap (λ (z : List Sent). (Child, (under p r, c)) ∷ z) (child_placed p (suc r) cs)

child_sends-append : (xs ys : List Chunk) → child_sends (xs ++ ys) ≡ child_sends xs ++ child_sends ys
child_sends-append [] ys = refl
child_sends-append (x ∷ xs) ys = ap (λ (z : List Sent). (Child, x) ∷ z) (child_sends-append xs ys)

-- of any rule, what is sent is the regrouped stream
pub regrouping_sends : {S : Type 0} (r : Rule S) (s : S) (items : List Chunk) (ended : Bool) → reactions (reacting r) s items ended ≡ child_sends (regrouped r s items ended)
regrouping_sends r s [] ended = refl
regrouping_sends r s (c ∷ []) false = refl
regrouping_sends r s (c ∷ []) true = child_placed c.0 0 (r.rest s c.1)
regrouping_sends r s (c ∷ d ∷ cs) ended =
    ap₂ (λ (y z : List Sent). y ++ z) (child_placed c.0 0 (r.leaves s c.1)) (regrouping_sends r (r.holds s c.1) (d ∷ cs) ended)
    ∙ sym (child_sends-append (ranked c.0 0 (r.leaves s c.1)) (regrouped r (r.holds s c.1) (d ∷ cs) ended))

pub sent_to-child_sends : (cs : List Chunk) → sent_to Child (child_sends cs) ≡ cs
sent_to-child_sends [] = refl
sent_to-child_sends (c ∷ cs) = ap (λ (z : List Chunk). c ∷ z) (sent_to-child_sends cs)

pub regrouping_sent : {S : Type 0} (r : Rule S) (s : S) (items : List Chunk) (ended : Bool) → sent_to Child (reactions (reacting r) s items ended) ≡ regrouped r s items ended
regrouping_sent r s items ended = ap (sent_to Child) (regrouping_sends r s items ended) ∙ sent_to-child_sends (regrouped r s items ended)

pub regrouping_reacts : RegroupingReacts
regrouping_reacts items ended = record {
  by_blocks = λ o t. regrouping_sends (blocks o t) [] items ended;
  by_bytes = λ size. regrouping_sends (flushes size) [] items ended;
}

-- ---- collecting

none_sent : (t : Ty) (ps : List ChunkData) (items : List Chunk) → sends (collector t) ps items ≡ []
none_sent t ps [] = refl
none_sent t ps (c ∷ cs) = none_sent t (ps ++ (c.1 ∷ [])) cs

collected_so_far : (t : Ty) (ps : List ChunkData) (items : List Chunk) → state_after (collector t) ps items ≡ ps ++ chunk_pieces items
collected_so_far t ps [] = sym (append-nil ps)
collected_so_far t ps (c ∷ cs) = collected_so_far t (ps ++ (c.1 ∷ [])) cs ∙ append_assoc ps (c.1 ∷ []) (chunk_pieces cs)

chunk_pieces-append : (xs ys : List Chunk) → chunk_pieces (xs ++ ys) ≡ chunk_pieces xs ++ chunk_pieces ys
chunk_pieces-append [] ys = refl
chunk_pieces-append (x ∷ xs) ys = ap (λ (z : List ChunkData). x.1 ∷ z) (chunk_pieces-append xs ys)

last_behind : (p : List ℕ) (xs : List Chunk) (c : Chunk) → last_path p (xs ++ (c ∷ [])) ≡ c.0
last_behind p [] c = refl
last_behind p (x ∷ xs) c = last_behind x.0 xs c

collected_whole : (t : Ty) (items : List Chunk) (c : Chunk) → collected t (items ++ (c ∷ [])) true ≡ (c.0, concatenated t (chunk_pieces (items ++ (c ∷ [])))) ∷ []
collected_whole t [] c = refl
collected_whole t (x ∷ xs) c = ap (λ (p : List ℕ). (p, concatenated t (x.1 ∷ chunk_pieces (xs ++ (c ∷ [])))) ∷ []) (last_behind x.0 xs c)

pub collecting_reacts : CollectingReacts
collecting_reacts t items c = record {
  before = none_sent t [] items;
  last = ap (λ (z : List ChunkData). child_outputs (concatenated t (z ++ (c.1 ∷ [])) ∷ [])) (collected_so_far t [] items)
      ∙ sym (ap (λ (z : List Chunk). child_outputs (chunk_pieces z)) (collected_whole t items c) ∙ ap (λ (z : List ChunkData). child_outputs (concatenated t z ∷ [])) (chunk_pieces-append items (c ∷ [])));
  path = ap chunk_paths (collected_whole t items c);
}
