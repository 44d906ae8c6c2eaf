-- Reading fields one after the other, as a loop does.
use Rattle.std.proofs.Common.{◌≡◌, ℕ, zero, suc, ◌-◌, ◌+◌, ◌≤◌, ◌<◌, List, [], ◌∷◌, ◌++◌, length, Result, Ok, Err, refl, sym, ap, ◌∙◌, append_assoc, arith}
use Rattle.std.proofs.lemmas.List.{append-nil, map_push}
use Rattle.vx_segment_reader.specs.declared.error.DecodeError.{DecodeError}
use Rattle.vx_segment_reader.specs.declared.error.DecodeError.TheVariants as errors
use Rattle.vx_byte_reader.specs.Places.{◌>>=◌, many_at}
use Rattle.vx_byte_reader.proofs.PlaceLoops.{with_front, regroup, many_stops}
use Rattle.vx_segment_spec.specs.Reading.{Fault, bad_grammar, bad_type, node_at, nodes_at}
use Rattle.vx_segment_writer.specs.Head.{Head}
use Rattle.vx_segment_reader.specs.Views.{Fails}

pub fails_with : {A B : Type 0} (e : DecodeError) (r : Result A Fault) (total : Result B Fault) → ((f : Fault) → r ≡ Err f → total ≡ Err f) → Fails e r → Fails e total
fails_with (errors.Grammar p) r total carry h = carry (bad_grammar p) h
fails_with (errors.BadType n) r total carry h = carry (bad_type n) h
fails_with errors.OutOfMemory r total carry h = tt

pub many_ends : {A : Type 0} (e : DecodeError) (read : List ℕ → Result (A × List ℕ) Fault) (front : List A) (count i : ℕ) (bytes : List ℕ) (total : Result (List A × List ℕ) Fault) → i < count → Fails e (read bytes)
    → with_front front (many_at read (count - i) bytes) ≡ total → Fails e total
many_ends e read front count i bytes total lt h so_far = fails_with e (read bytes) total (λ f is. many_stops read front count i bytes total f lt is so_far) h

pub ruleset many_rules = (append_assoc)

-- ---- nodes: `pending` trees are still to be read

pub nodes_go_on : (stop : ℕ) (front : List Head) (count i pending : ℕ) (bytes : List ℕ) (n : Head) (after : List ℕ) (total : Result (List Head × List ℕ) Fault) → i < count → 0 < pending → node_at stop bytes ≡ Ok (n, after)
    → with_front front (nodes_at (count - i) pending stop bytes) ≡ total → with_front (front ++ n ∷ []) (nodes_at (count - (i + 1)) (pending - 1 + n.children) stop after) ≡ total
unfolding nodes_at
nodes_go_on stop front count i zero bytes n after total lt some h so_far = absurd (omega arith)
nodes_go_on stop front count i (suc pending) bytes n after total lt some h so_far =
    let k : count - i ≡ suc (count - (i + 1)) = omega arith in
    let one : with_front front (nodes_at (count - i) (suc pending) stop bytes) ≡ with_front (front ++ n ∷ []) (nodes_at (count - (i + 1)) (pending + n.children) stop after) = rw (k, h) (regroup front n (nodes_at (count - (i + 1)) (pending + n.children) stop after)) in
    let m : suc pending - 1 + n.children ≡ pending + n.children = omega arith in
    rw m (sym one ∙ so_far)

nodes_stop : (stop : ℕ) (front : List Head) (count i pending : ℕ) (bytes : List ℕ) (total : Result (List Head × List ℕ) Fault) (f : Fault) → i < count → 0 < pending → node_at stop bytes ≡ Err f
    → with_front front (nodes_at (count - i) pending stop bytes) ≡ total → total ≡ Err f
unfolding nodes_at
nodes_stop stop front count i zero bytes total f lt some h so_far = absurd (omega arith)
nodes_stop stop front count i (suc pending) bytes total f lt some h so_far =
    let k : count - i ≡ suc (count - (i + 1)) = omega arith in
    let one : with_front front (nodes_at (count - i) (suc pending) stop bytes) ≡ Err f = rw (k, h) refl in
    sym so_far ∙ one

pub nodes_end : (e : DecodeError) (stop : ℕ) (front : List Head) (count i pending : ℕ) (bytes : List ℕ) (total : Result (List Head × List ℕ) Fault) → i < count → 0 < pending → Fails e (node_at stop bytes)
    → with_front front (nodes_at (count - i) pending stop bytes) ≡ total → Fails e total
nodes_end e stop front count i pending bytes total lt some h so_far = fails_with e (node_at stop bytes) total (λ f is. nodes_stop stop front count i pending bytes total f lt some is so_far) h

pub nodes_done : (stop : ℕ) (front : List Head) (fuel pending : ℕ) (bytes : List ℕ) (total : Result (List Head × List ℕ) Fault) → pending ≡ 0
    → with_front front (nodes_at fuel pending stop bytes) ≡ total → total ≡ Ok (front, bytes)
unfolding nodes_at
nodes_done stop front fuel zero bytes total none so_far = sym so_far ∙ ap (λ (ns : List Head). Ok (ns, bytes)) (append-nil front)
nodes_done stop front fuel (suc pending) bytes total none so_far = absurd (omega arith)

pub nodes_short : (stop : ℕ) (front : List Head) (count i pending : ℕ) (bytes : List ℕ) (total : Result (List Head × List ℕ) Fault) → count ≤ i → 0 < pending
    → with_front front (nodes_at (count - i) pending stop bytes) ≡ total → total ≡ Err (bad_grammar (stop - length bytes))
unfolding nodes_at
nodes_short stop front count i zero bytes total le some so_far = absurd (omega arith)
nodes_short stop front count i (suc pending) bytes total le some so_far =
    let k : count - i ≡ 0 = omega arith in
    let one : with_front front (nodes_at (count - i) (suc pending) stop bytes) ≡ Err (bad_grammar (stop - length bytes)) = rw k refl in
    sym so_far ∙ one

pub ruleset node_rules = (map_push)
