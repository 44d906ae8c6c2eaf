-- Reading fields and nodes one after the other, as a loop does.
use Rattle.std.proofs.Common.{◌≡◌, ℕ, zero, suc, ◌-◌, ◌+◌, ◌≤◌, ◌<◌, List, [], ◌∷◌, ◌++◌, length, Result, Ok, Err, refl, sym, ap, subst, ◌∙◌, arith}
use Rattle.vx_byte_reader.specs.Places.{◌>>=◌, many_at}
use Rattle.vx_byte_reader.proofs.PlaceLoops.{with_front, many_stops}
use Rattle.vx_layout_bytes.specs.declared.error.GrammarError.{GrammarError}
use Rattle.vx_layout_bytes.specs.declared.error.GrammarError.TheVariants as errors
use Rattle.vx_layout_bytes.specs.Node.{Own, Node, Nodes, node, no_nodes, first, nodes_of}
use Rattle.vx_layout_bytes.specs.Reading.{Fault, bad_grammar, too_deep, too_many, own_at, ReaderOf, many_nodes, none_at, node_with, node_at}
use Rattle.vx_layout_bytes.specs.Views.{Fails}

pub fails_with : {A B : Type 0} (e : GrammarError) (r : Result A Fault) (total : Result B Fault) → ((f : Fault) → r ≡ Err f → total ≡ Err f) → Fails e r → Fails e total
fails_with (errors.Grammar p) r total carry h = carry (bad_grammar p) h
fails_with (errors.TooDeep p) r total carry h = carry (too_deep p) h
fails_with (errors.TooManyNodes p) r total carry h = carry (too_many p) h
fails_with errors.OutOfMemory r total carry h = tt

-- ---- fields

pub many_ends : {A : Type 0} (e : GrammarError) (read : List ℕ → Result (A × List ℕ) Fault) (front : List A) (count i : ℕ) (bytes : List ℕ) (total : Result (List A × List ℕ) Fault) → i < count → Fails e (read bytes)
    → with_front front (many_at read (count - i) bytes) ≡ total → Fails e total
many_ends e read front count i bytes total lt h so_far = fails_with e (read bytes) total (λ f is. many_stops read front count i bytes total f lt is so_far) h

-- ---- nodes

-- nodes in front of others
abbrev pub before : List Node → Nodes → Nodes
before [] ns = ns
before (n ∷ front) ns = first n (before front ns)

before-push : (front : List Node) (n : Node) (ns : Nodes) → before front (first n ns) ≡ before (front ++ n ∷ []) ns
before-push [] n ns = refl
before-push (m ∷ front) n ns = ap (first m) (before-push front n ns)

before-none : (front : List Node) → before front no_nodes ≡ nodes_of front
before-none [] = refl
before-none (n ∷ front) = ap (first n) (before-none front)

abbrev pub with_nodes : List Node → Result (Nodes × ℕ × List ℕ) Fault → Result (Nodes × ℕ × List ℕ) Fault
with_nodes front read = read >>= λ x. Ok (before front x.0, x.1, x.2)

pub with_none : (read : Result (Nodes × ℕ × List ℕ) Fault) → with_nodes [] read ≡ read
with_none (Ok x) = refl
with_none (Err f) = refl

regroup_nodes : (front : List Node) (n : Node) (read : Result (Nodes × ℕ × List ℕ) Fault) → with_nodes front (read >>= λ x. Ok (first n x.0, x.1, x.2)) ≡ with_nodes (front ++ n ∷ []) read
regroup_nodes front n (Ok x) = ap (λ (ns : Nodes). Ok (ns, x.1, x.2)) (before-push front n x.0)
regroup_nodes front n (Err f) = refl

pub nodes_go_on : (read : ReaderOf Node) (front : List Node) (count i left : ℕ) (bytes : List ℕ) (n : Node) (fewer : ℕ) (after : List ℕ) (total : Result (Nodes × ℕ × List ℕ) Fault) → i < count → read left bytes ≡ Ok (n, fewer, after)
    → with_nodes front (many_nodes read (count - i) left bytes) ≡ total → with_nodes (front ++ n ∷ []) (many_nodes read (count - (i + 1)) fewer after) ≡ total
unfolding many_nodes
nodes_go_on read front count i left bytes n fewer after total lt h so_far =
    let k : count - i ≡ suc (count - (i + 1)) = omega arith in
    let one : with_nodes front (many_nodes read (count - i) left bytes) ≡ with_nodes (front ++ n ∷ []) (many_nodes read (count - (i + 1)) fewer after) = rw (k, h) (regroup_nodes front n (many_nodes read (count - (i + 1)) fewer after)) in
    sym one ∙ so_far

nodes_stop : (read : ReaderOf Node) (front : List Node) (count i left : ℕ) (bytes : List ℕ) (total : Result (Nodes × ℕ × List ℕ) Fault) (f : Fault) → i < count → read left bytes ≡ Err f
    → with_nodes front (many_nodes read (count - i) left bytes) ≡ total → total ≡ Err f
unfolding many_nodes
nodes_stop read front count i left bytes total f lt h so_far =
    let k : count - i ≡ suc (count - (i + 1)) = omega arith in
    let one : with_nodes front (many_nodes read (count - i) left bytes) ≡ Err f = rw (k, h) refl in
    sym so_far ∙ one

pub nodes_end : (e : GrammarError) (read : ReaderOf Node) (front : List Node) (count i left : ℕ) (bytes : List ℕ) (total : Result (Nodes × ℕ × List ℕ) Fault) → i < count → Fails e (read left bytes)
    → with_nodes front (many_nodes read (count - i) left bytes) ≡ total → Fails e total
nodes_end e read front count i left bytes total lt h so_far = fails_with e (read left bytes) total (λ f is. nodes_stop read front count i left bytes total f lt is so_far) h

pub nodes_done : (read : ReaderOf Node) (front : List Node) (count i left : ℕ) (bytes : List ℕ) (total : Result (Nodes × ℕ × List ℕ) Fault) → count ≤ i → with_nodes front (many_nodes read (count - i) left bytes) ≡ total → total ≡ Ok (nodes_of front, left, bytes)
unfolding many_nodes
nodes_done read front count i left bytes total le so_far =
    let k : count - i ≡ 0 = omega arith in
    let one : with_nodes front (many_nodes read (count - i) left bytes) ≡ Ok (nodes_of front, left, bytes) = rw k (ap (λ (ns : Nodes). Ok (ns, left, bytes)) (before-none front)) in
    sym so_far ∙ one

-- ---- a node

pub too_deep_at : (depth stop left : ℕ) (bytes : List ℕ) → depth ≡ 0 → node_at depth stop left bytes ≡ Err (too_deep (stop - length bytes))
unfolding none_at
too_deep_at zero stop left bytes e = refl
too_deep_at (suc depth) stop left bytes e = absurd (omega (arith, e))

pub too_many_at : (depth stop left : ℕ) (bytes : List ℕ) → 0 < depth → left ≡ 0 → node_at depth stop left bytes ≡ Err (too_many (stop - length bytes))
unfolding node_with
too_many_at zero stop left bytes lt e = absurd (omega (arith, lt))
too_many_at (suc depth) stop zero bytes lt e = refl
too_many_at (suc depth) stop (suc left) bytes lt e = absurd (omega (arith, e))

pub node_done : (depth stop left : ℕ) (bytes : List ℕ) (o : Own) (count : ℕ) (rest : List ℕ) (ns : Nodes) (fewer : ℕ) (after : List ℕ) → 0 < depth → 0 < left → own_at stop bytes ≡ Ok (o, count, rest)
    → many_nodes (node_at (depth - 1) stop) count (left - 1) rest ≡ Ok (ns, fewer, after) → node_at depth stop left bytes ≡ Ok (node o ns, fewer, after)
unfolding node_with
node_done zero stop left bytes o count rest ns fewer after lt some h i = absurd (omega (arith, lt))
node_done (suc depth) stop zero bytes o count rest ns fewer after lt some h i = absurd (omega (arith, some))
node_done (suc depth) stop (suc left) bytes o count rest ns fewer after lt some h i =
    let d : suc depth - 1 ≡ depth = omega arith in
    let l : suc left - 1 ≡ left = omega arith in
    let j : many_nodes (node_at depth stop) count left rest ≡ Ok (ns, fewer, after) = subst (λ (k : ℕ). many_nodes (node_at k stop) count left rest ≡ Ok (ns, fewer, after)) d (subst (λ (k : ℕ). many_nodes (node_at (suc depth - 1) stop) count k rest ≡ Ok (ns, fewer, after)) l i) in
    rw (h, j) refl

own_stops : (depth stop left : ℕ) (bytes : List ℕ) (f : Fault) → 0 < depth → 0 < left → own_at stop bytes ≡ Err f → node_at depth stop left bytes ≡ Err f
unfolding node_with
own_stops zero stop left bytes f lt some h = absurd (omega (arith, lt))
own_stops (suc depth) stop zero bytes f lt some h = absurd (omega (arith, some))
own_stops (suc depth) stop (suc left) bytes f lt some h = rw h refl

pub own_fails : (e : GrammarError) (depth stop left : ℕ) (bytes : List ℕ) → 0 < depth → 0 < left → Fails e (own_at stop bytes) → Fails e (node_at depth stop left bytes)
own_fails e depth stop left bytes lt some h = fails_with e (own_at stop bytes) (node_at depth stop left bytes) (λ f is. own_stops depth stop left bytes f lt some is) h

children_stop : (depth stop left : ℕ) (bytes : List ℕ) (o : Own) (count : ℕ) (rest : List ℕ) (f : Fault) → 0 < depth → 0 < left → own_at stop bytes ≡ Ok (o, count, rest)
    → many_nodes (node_at (depth - 1) stop) count (left - 1) rest ≡ Err f → node_at depth stop left bytes ≡ Err f
unfolding node_with
children_stop zero stop left bytes o count rest f lt some h i = absurd (omega (arith, lt))
children_stop (suc depth) stop zero bytes o count rest f lt some h i = absurd (omega (arith, some))
children_stop (suc depth) stop (suc left) bytes o count rest f lt some h i =
    let d : suc depth - 1 ≡ depth = omega arith in
    let l : suc left - 1 ≡ left = omega arith in
    let j : many_nodes (node_at depth stop) count left rest ≡ Err f = subst (λ (k : ℕ). many_nodes (node_at k stop) count left rest ≡ Err f) d (subst (λ (k : ℕ). many_nodes (node_at (suc depth - 1) stop) count k rest ≡ Err f) l i) in
    rw (h, j) refl

pub children_fail : (e : GrammarError) (depth stop left : ℕ) (bytes : List ℕ) (o : Own) (count : ℕ) (rest : List ℕ) → 0 < depth → 0 < left → own_at stop bytes ≡ Ok (o, count, rest)
    → Fails e (many_nodes (node_at (depth - 1) stop) count (left - 1) rest) → Fails e (node_at depth stop left bytes)
children_fail e depth stop left bytes o count rest lt some h i =
    fails_with e (many_nodes (node_at (depth - 1) stop) count (left - 1) rest) (node_at depth stop left bytes) (λ f is. children_stop depth stop left bytes o count rest f lt some h is) i

pub ruleset node_rules = (too_deep_at, too_many_at, node_done, own_fails, children_fail)
