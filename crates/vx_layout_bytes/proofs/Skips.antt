-- Going behind nodes one after the other, as a loop does.
use Rattle.std.proofs.Common.{◌≡◌, ℕ, suc, ◌-◌, ◌+◌, ◌≤◌, ◌<◌, List, length, Result, Ok, Err, refl, sym, ap, ◌∙◌, arith}
use Rattle.vx_byte_reader.specs.Places.{◌>>=◌}
use Rattle.vx_byte_reader.proofs.PlaceLaws.{ok_is}
use Rattle.vx_layout_bytes.specs.declared.error.GrammarError.{GrammarError}
use Rattle.vx_layout_bytes.specs.declared.error.GrammarError.TheVariants as errors
use Rattle.vx_layout_bytes.specs.Node.{Own, Node, Nodes, first}
use Rattle.vx_layout_bytes.specs.Reading.{Fault, bad_grammar, too_deep, too_many, own_at, ReaderOf, many_nodes, node_at}
use Rattle.vx_layout_bytes.specs.There.{behind, only_value}
use Rattle.vx_layout_bytes.specs.Views.{Fails}
use Rattle.vx_layout_bytes.proofs.Loops.{too_deep_at, too_many_at, node_done, own_fails, children_fail}

abbrev again : {A : Type 0} → A → ℕ × List ℕ → Result (A × ℕ × List ℕ) Fault
again x y = Ok (x, y.0, y.1)

-- the value that was left out
pub behind_ok : {A : Type 0} (r : Result (A × ℕ × List ℕ) Fault) (left : ℕ) (rest : List ℕ) → behind r ≡ Ok (left, rest) → (x : A) × (r ≡ Ok (x, left, rest))
behind_ok (Ok x) left rest e = (x.0, ap (again x.0) (ok_is (x.1, x.2) (left, rest) e))
behind_ok (Err f) left rest e = absurd cc

behind_err : {A : Type 0} (r : Result (A × ℕ × List ℕ) Fault) (f : Fault) → behind r ≡ Err f → r ≡ Err f
behind_err (Ok x) f e = absurd cc
behind_err (Err g) f e = cc

-- the faults are those of the reading
pub fails_behind : {A : Type 0} (e : GrammarError) (r : Result (A × ℕ × List ℕ) Fault) → Fails e (behind r) → Fails e r
fails_behind (errors.Grammar p) r h = behind_err r (bad_grammar p) h
fails_behind (errors.TooDeep p) r h = behind_err r (too_deep p) h
fails_behind (errors.TooManyNodes p) r h = behind_err r (too_many p) h
fails_behind errors.OutOfMemory r h = tt

pub behind_fails : {A : Type 0} (e : GrammarError) (r : Result (A × ℕ × List ℕ) Fault) → Fails e r → Fails e (behind r)
behind_fails (errors.Grammar p) r h = ap behind h
behind_fails (errors.TooDeep p) r h = ap behind h
behind_fails (errors.TooManyNodes p) r h = ap behind h
behind_fails errors.OutOfMemory r h = tt

only_err : {A : Type 0} (r : Result (A × ℕ × List ℕ) Fault) (f : Fault) → r ≡ Err f → only_value r ≡ Err f
only_err r f h = ap only_value h

pub only_fails : {A : Type 0} (e : GrammarError) (r : Result (A × ℕ × List ℕ) Fault) → Fails e r → Fails e (only_value r)
only_fails (errors.Grammar p) r h = only_err r (bad_grammar p) h
only_fails (errors.TooDeep p) r h = only_err r (too_deep p) h
only_fails (errors.TooManyNodes p) r h = only_err r (too_many p) h
only_fails errors.OutOfMemory r h = tt

-- ---- a node

pub node_behind : (depth stop left : ℕ) (bytes : List ℕ) (o : Own) (count : ℕ) (rest : List ℕ) (fewer : ℕ) (after : List ℕ) → 0 < depth → 0 < left → own_at stop bytes ≡ Ok (o, count, rest)
    → behind (many_nodes (node_at (depth - 1) stop) count (left - 1) rest) ≡ Ok (fewer, after) → behind (node_at depth stop left bytes) ≡ Ok (fewer, after)
node_behind depth stop left bytes o count rest fewer after lt some h i =
    let x = behind_ok (many_nodes (node_at (depth - 1) stop) count (left - 1) rest) fewer after i in
    rw (node_done depth stop left bytes o count rest x.0 fewer after lt some h x.1) refl

pub deep_behind : (depth stop left : ℕ) (bytes : List ℕ) → depth ≡ 0 → behind (node_at depth stop left bytes) ≡ Err (too_deep (stop - length bytes))
deep_behind depth stop left bytes e = rw (too_deep_at depth stop left bytes e) refl

pub many_behind : (depth stop left : ℕ) (bytes : List ℕ) → 0 < depth → left ≡ 0 → behind (node_at depth stop left bytes) ≡ Err (too_many (stop - length bytes))
many_behind depth stop left bytes lt e = rw (too_many_at depth stop left bytes lt e) refl

pub own_behind : (e : GrammarError) (depth stop left : ℕ) (bytes : List ℕ) → 0 < depth → 0 < left → Fails e (own_at stop bytes) → Fails e (behind (node_at depth stop left bytes))
own_behind e depth stop left bytes lt some h = behind_fails e (node_at depth stop left bytes) (own_fails e depth stop left bytes lt some h)

pub children_behind : (e : GrammarError) (depth stop left : ℕ) (bytes : List ℕ) (o : Own) (count : ℕ) (rest : List ℕ) → 0 < depth → 0 < left → own_at stop bytes ≡ Ok (o, count, rest)
    → Fails e (behind (many_nodes (node_at (depth - 1) stop) count (left - 1) rest)) → Fails e (behind (node_at depth stop left bytes))
children_behind e depth stop left bytes o count rest lt some h i =
    behind_fails e (node_at depth stop left bytes) (children_fail e depth stop left bytes o count rest lt some h (fails_behind e (many_nodes (node_at (depth - 1) stop) count (left - 1) rest) i))

pub ruleset node_rules = (deep_behind, many_behind, node_behind, own_behind, children_behind)

-- ---- nodes

others_behind : (n : Node) (r : Result (Nodes × ℕ × List ℕ) Fault) → behind (r >>= λ x. Ok (first n x.0, x.1, x.2)) ≡ behind r
others_behind n (Ok x) = refl
others_behind n (Err f) = refl

pub skip_goes_on : (read : ReaderOf Node) (count i left : ℕ) (bytes : List ℕ) (fewer : ℕ) (after : List ℕ) (total : Result (ℕ × List ℕ) Fault) → i < count → behind (read left bytes) ≡ Ok (fewer, after)
    → behind (many_nodes read (count - i) left bytes) ≡ total → behind (many_nodes read (count - (i + 1)) fewer after) ≡ total
unfolding many_nodes
skip_goes_on read count i left bytes fewer after total lt h so_far =
    let k : count - i ≡ suc (count - (i + 1)) = omega arith in
    let x = behind_ok (read left bytes) fewer after h in
    let one : behind (many_nodes read (count - i) left bytes) ≡ behind (many_nodes read (count - (i + 1)) fewer after) = rw (k, x.1) (others_behind x.0 (many_nodes read (count - (i + 1)) fewer after)) in
    sym one ∙ so_far

skip_stops : (read : ReaderOf Node) (count i left : ℕ) (bytes : List ℕ) (f : Fault) → i < count → read left bytes ≡ Err f → behind (many_nodes read (count - i) left bytes) ≡ Err f
unfolding many_nodes
skip_stops read count i left bytes f lt h =
    let k : count - i ≡ suc (count - (i + 1)) = omega arith in
    rw (k, h) refl

pub skip_ends : (e : GrammarError) (read : ReaderOf Node) (count i left : ℕ) (bytes : List ℕ) (total : Result (ℕ × List ℕ) Fault) → i < count → Fails e (behind (read left bytes))
    → behind (many_nodes read (count - i) left bytes) ≡ total → Fails e total
skip_ends (errors.Grammar p) read count i left bytes total lt h so_far = sym so_far ∙ skip_stops read count i left bytes (bad_grammar p) lt (behind_err (read left bytes) (bad_grammar p) h)
skip_ends (errors.TooDeep p) read count i left bytes total lt h so_far = sym so_far ∙ skip_stops read count i left bytes (too_deep p) lt (behind_err (read left bytes) (too_deep p) h)
skip_ends (errors.TooManyNodes p) read count i left bytes total lt h so_far = sym so_far ∙ skip_stops read count i left bytes (too_many p) lt (behind_err (read left bytes) (too_many p) h)
skip_ends errors.OutOfMemory read count i left bytes total lt h so_far = tt

pub skip_done : (read : ReaderOf Node) (count i left : ℕ) (bytes : List ℕ) (total : Result (ℕ × List ℕ) Fault) → count ≤ i → behind (many_nodes read (count - i) left bytes) ≡ total → total ≡ Ok (left, bytes)
unfolding many_nodes
skip_done read count i left bytes total le so_far =
    let k : count - i ≡ 0 = omega arith in
    let one : behind (many_nodes read (count - i) left bytes) ≡ Ok (left, bytes) = rw k refl in
    sym so_far ∙ one
