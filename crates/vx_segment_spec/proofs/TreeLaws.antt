-- A tree that is read is spelled so, and what is spelled so is read.
use Rattle.std.proofs.Common.{◌≡◌, ℕ, zero, suc, ◌+◌, ◌-◌, ◌^◌, ◌<◌, ◌≤◌, true, cond, eqb, List, [], ◌∷◌, ◌++◌, length, Ok, Err, refl, sym, ap, subst, ◌∙◌, append_assoc, arith}
use Rattle.std.specs.Int.{w16, w64, to_le_bytes}
use Rattle.std.specs.List.{AllByRecursion}
use Rattle.std.proofs.lemmas.Bool.{eqb-true}
use Rattle.std.proofs.lemmas.List.{append-nil, nil_from_length, length-append}
use Rattle.vx_model.specs.Words.{joined_by}
use Rattle.vx_model.specs.CellData.{bit, u64_bytes}
use Rattle.vx_byte_reader.specs.Places.{◌>>=◌, many_at}
use Rattle.vx_segment_spec.specs.Reading.{bad_grammar, number_at, byte_at, flag_at, node_at, nodes_at, RawTree, tree_at}
use Rattle.vx_segment_writer.specs.Head.{Head}
use Rattle.vx_segment_writer.specs.Head.{head_spelling}
use Rattle.vx_segment_spec.specs.Spelled.{are_trees, tree_spelling, IsHead}
use Rattle.vx_byte_reader.proofs.FieldLaws.{IsBytes, Takes, Takes-then}
use Rattle.vx_byte_reader.proofs.PlaceLaws.{bind_ok, guard_ended, ok_is, many_takes, many_again}
use Rattle.vx_segment_spec.proofs.Fields.{reads_u16, reads_u64, reads_byte, reads_flag}

node_takes : (stop : ℕ) (bytes : List ℕ) (x : Head × List ℕ) → IsBytes bytes → node_at stop bytes ≡ Ok x → Takes bytes (head_spelling x.0) x.1
unfolding node_at
node_takes stop bytes x fits e =
    let a = bind_ok (number_at w16 stop bytes) (λ index. number_at w64 stop index.1 >>= λ rows. byte_at stop rows.1 >>= λ extra. byte_at stop extra.1 >>= λ count. many_at (number_at w64 stop) count.0 count.1 >>= λ lengths. number_at w64 stop lengths.1 >>= λ children. Ok (record { index = index.0; rows = rows.0; extra = extra.0; lengths = lengths.0; children = children.0 }, children.1)) x e in
    let b = bind_ok (number_at w64 stop a.0.1) (λ rows. byte_at stop rows.1 >>= λ extra. byte_at stop extra.1 >>= λ count. many_at (number_at w64 stop) count.0 count.1 >>= λ lengths. number_at w64 stop lengths.1 >>= λ children. Ok (record { index = a.0.0; rows = rows.0; extra = extra.0; lengths = lengths.0; children = children.0 }, children.1)) x a.2 in
    let c = bind_ok (byte_at stop b.0.1) (λ extra. byte_at stop extra.1 >>= λ count. many_at (number_at w64 stop) count.0 count.1 >>= λ lengths. number_at w64 stop lengths.1 >>= λ children. Ok (record { index = a.0.0; rows = b.0.0; extra = extra.0; lengths = lengths.0; children = children.0 }, children.1)) x b.2 in
    let d = bind_ok (byte_at stop c.0.1) (λ count. many_at (number_at w64 stop) count.0 count.1 >>= λ lengths. number_at w64 stop lengths.1 >>= λ children. Ok (record { index = a.0.0; rows = b.0.0; extra = c.0.0; lengths = lengths.0; children = children.0 }, children.1)) x c.2 in
    let f = bind_ok (many_at (number_at w64 stop) d.0.0 d.0.1) (λ lengths. number_at w64 stop lengths.1 >>= λ children. Ok (record { index = a.0.0; rows = b.0.0; extra = c.0.0; lengths = lengths.0; children = children.0 }, children.1)) x d.2 in
    let g = bind_ok (number_at w64 stop f.0.1) (λ children. Ok (record { index = a.0.0; rows = b.0.0; extra = c.0.0; lengths = f.0.0; children = children.0 }, children.1)) x f.2 in
    let t0 = ((reads_u16 stop).takes bytes a.0.0 a.0.1 fits a.1).0 in
    let t1 = ((reads_u64 stop).takes a.0.1 b.0.0 b.0.1 t0.rest_bytes b.1).0 in
    let t2 = ((reads_byte stop).takes b.0.1 c.0.0 c.0.1 t1.rest_bytes c.1).0 in
    let t3 = ((reads_byte stop).takes c.0.1 d.0.0 d.0.1 t2.rest_bytes d.1).0 in
    let t4 = many_takes (number_at w64 stop) u64_bytes (λ m. m < 2 ^ 64) (reads_u64 stop) d.0.0 d.0.1 f.0 t3.rest_bytes f.1 in
    let t5 = ((reads_u64 stop).takes f.0.1 g.0.0 g.0.1 t4.0.rest_bytes g.1).0 in
    let e45 = Takes-then d.0.1 (joined_by u64_bytes f.0.0) f.0.1 (u64_bytes g.0.0) g.0.1 t4.0 t5 in
    let e35 = Takes-then c.0.1 (d.0.0 ∷ []) d.0.1 (joined_by u64_bytes f.0.0 ++ u64_bytes g.0.0) g.0.1 t3 e45 in
    let counted : Takes c.0.1 (length f.0.0 ∷ (joined_by u64_bytes f.0.0 ++ u64_bytes g.0.0)) g.0.1 = subst (λ (k : ℕ). Takes c.0.1 (k ∷ (joined_by u64_bytes f.0.0 ++ u64_bytes g.0.0)) g.0.1) (sym t4.1) e35 in
    let e25 = Takes-then b.0.1 (c.0.0 ∷ []) c.0.1 (length f.0.0 ∷ (joined_by u64_bytes f.0.0 ++ u64_bytes g.0.0)) g.0.1 t2 counted in
    let e15 = Takes-then a.0.1 (u64_bytes b.0.0) b.0.1 (c.0.0 ∷ length f.0.0 ∷ (joined_by u64_bytes f.0.0 ++ u64_bytes g.0.0)) g.0.1 t1 e25 in
    let e05 = Takes-then bytes (to_le_bytes w16 a.0.0) a.0.1 (u64_bytes b.0.0 ++ (c.0.0 ∷ length f.0.0 ∷ (joined_by u64_bytes f.0.0 ++ u64_bytes g.0.0))) g.0.1 t0 e15 in
    let made : Head × List ℕ = (record { index = a.0.0; rows = b.0.0; extra = c.0.0; lengths = f.0.0; children = g.0.0 }, g.0.1) in
    subst (λ (y : Head × List ℕ). Takes bytes (head_spelling y.0) y.1) (ok_is made x g.2) e05

node_again : (stop : ℕ) (n : Head) (rest : List ℕ) → IsHead n → node_at stop (head_spelling n ++ rest) ≡ Ok (n, rest)
unfolding node_at
node_again stop n rest fits =
    let tail : List ℕ = joined_by u64_bytes n.lengths ++ u64_bytes n.children in
    let e2 : (joined_by u64_bytes n.lengths ++ u64_bytes n.children) ++ rest ≡ joined_by u64_bytes n.lengths ++ (u64_bytes n.children ++ rest) = append_assoc (joined_by u64_bytes n.lengths) (u64_bytes n.children) rest in
    let regrouped : head_spelling n ++ rest ≡ to_le_bytes w16 n.index ++ (u64_bytes n.rows ++ (n.extra ∷ length n.lengths ∷ (joined_by u64_bytes n.lengths ++ (u64_bytes n.children ++ rest)))) = append_assoc (to_le_bytes w16 n.index) (u64_bytes n.rows ++ (n.extra ∷ length n.lengths ∷ tail)) rest ∙ ap (λ (x : List ℕ). to_le_bytes w16 n.index ++ x) (append_assoc (u64_bytes n.rows) (n.extra ∷ length n.lengths ∷ tail) rest) ∙ ap (λ (x : List ℕ). to_le_bytes w16 n.index ++ (u64_bytes n.rows ++ (n.extra ∷ length n.lengths ∷ x))) e2 in
    ap (node_at stop) regrouped ∙ rw ((reads_u16 stop).again n.index (u64_bytes n.rows ++ (n.extra ∷ length n.lengths ∷ (joined_by u64_bytes n.lengths ++ (u64_bytes n.children ++ rest)))) fits.index, (reads_u64 stop).again n.rows (n.extra ∷ length n.lengths ∷ (joined_by u64_bytes n.lengths ++ (u64_bytes n.children ++ rest))) fits.rows, many_again (number_at w64 stop) u64_bytes (λ m. m < 2 ^ 64) (reads_u64 stop) n.lengths (u64_bytes n.children ++ rest) fits.lengths, (reads_u64 stop).again n.children rest fits.children) refl

pub nodes_take : (fuel pending stop : ℕ) (bytes : List ℕ) (x : List Head × List ℕ) → IsBytes bytes → nodes_at fuel pending stop bytes ≡ Ok x
    → Takes bytes (joined_by head_spelling x.0) x.1 × (are_trees pending x.0 ≡ true)
unfolding nodes_at
nodes_take zero zero stop bytes x fits e =
    subst (λ (y : List Head × List ℕ). Takes bytes (joined_by head_spelling y.0) y.1 × (are_trees 0 y.0 ≡ true)) (ok_is ([], bytes) x e) (record { parts = refl; rest_bytes = fits }, refl)
nodes_take (suc fuel) zero stop bytes x fits e =
    subst (λ (y : List Head × List ℕ). Takes bytes (joined_by head_spelling y.0) y.1 × (are_trees 0 y.0 ≡ true)) (ok_is ([], bytes) x e) (record { parts = refl; rest_bytes = fits }, refl)
nodes_take zero (suc pending) stop bytes x fits e = absurd cc
nodes_take (suc fuel) (suc pending) stop bytes x fits e =
    let a = bind_ok (node_at stop bytes) (λ first. nodes_at fuel (pending + first.0.children) stop first.1 >>= λ others. Ok (first.0 ∷ others.0, others.1)) x e in
    let b = bind_ok (nodes_at fuel (pending + a.0.0.children) stop a.0.1) (λ others. Ok (a.0.0 ∷ others.0, others.1)) x a.2 in
    let first = node_takes stop bytes a.0 fits a.1 in
    let second = nodes_take fuel (pending + a.0.0.children) stop a.0.1 b.0 first.rest_bytes b.1 in
    let both = Takes-then bytes (head_spelling a.0.0) a.0.1 (joined_by head_spelling b.0.0) b.0.1 first second.0 in
    let made : List Head × List ℕ = (a.0.0 ∷ b.0.0, b.0.1) in
    subst (λ (y : List Head × List ℕ). Takes bytes (joined_by head_spelling y.0) y.1 × (are_trees (suc pending) y.0 ≡ true)) (ok_is made x b.2) (both, second.1)

nodes_again : (fuel pending stop : ℕ) (ns : List Head) (rest : List ℕ) → length ns ≤ fuel → are_trees pending ns ≡ true → AllByRecursion IsHead ns
    → nodes_at fuel pending stop (joined_by head_spelling ns ++ rest) ≡ Ok (ns, rest)
unfolding nodes_at
nodes_again zero zero stop [] rest le trees fits = refl
nodes_again (suc fuel) zero stop [] rest le trees fits = refl
nodes_again fuel zero stop (n ∷ ns) rest le trees fits = absurd cc
nodes_again fuel (suc pending) stop [] rest le trees fits = absurd cc
nodes_again zero (suc pending) stop (n ∷ ns) rest le trees fits = absurd (omega (arith, le))
nodes_again (suc fuel) (suc pending) stop (n ∷ ns) rest le trees fits =
    ap (nodes_at (suc fuel) (suc pending) stop) (append_assoc (head_spelling n) (joined_by head_spelling ns) rest) ∙ rw (node_again stop n (joined_by head_spelling ns ++ rest) fits.0, nodes_again fuel (pending + n.children) stop ns rest (omega (arith, le)) trees fits.1) refl

-- a node has a byte at least
pub enough : (ns : List Head) → length ns ≤ length (joined_by head_spelling ns)
enough [] = omega arith
enough (n ∷ ns) =
    let first : length (joined_by head_spelling (n ∷ ns)) ≡ length (head_spelling n) + length (joined_by head_spelling ns) = length-append (head_spelling n) (joined_by head_spelling ns) in
    let more : length (head_spelling n) ≡ length (to_le_bytes w16 n.index) + length (u64_bytes n.rows ++ (n.extra ∷ length n.lengths ∷ (joined_by u64_bytes n.lengths ++ u64_bytes n.children))) = length-append (to_le_bytes w16 n.index) (u64_bytes n.rows ++ (n.extra ∷ length n.lengths ∷ (joined_by u64_bytes n.lengths ++ u64_bytes n.children))) in
    let two : length (to_le_bytes w16 n.index) ≡ 2 = refl in
    omega (arith, enough ns, first, more, two)

pub tree_takes : (stop : ℕ) (bytes : List ℕ) (t : RawTree) → IsBytes bytes → tree_at stop bytes ≡ Ok t → (bytes ≡ tree_spelling t) × (are_trees 1 t.nodes ≡ true)
unfolding tree_at
tree_takes stop bytes t fits e =
    let a = bind_ok (flag_at stop bytes) (λ padded. nodes_at (length padded.1) 1 stop padded.1 >>= λ nodes. cond (eqb (length nodes.1) 0) (Ok (record { padded = padded.0; nodes = nodes.0 })) (Err (bad_grammar (stop - length nodes.1)))) t e in
    let b = bind_ok (nodes_at (length a.0.1) 1 stop a.0.1) (λ nodes. cond (eqb (length nodes.1) 0) (Ok (record { padded = a.0.0; nodes = nodes.0 })) (Err (bad_grammar (stop - length nodes.1)))) t a.2 in
    let made : RawTree = record { padded = a.0.0; nodes = b.0.0 } in
    let g = guard_ended (eqb (length b.0.1) 0) (bad_grammar (stop - length b.0.1)) made t b.2 in
    let first = ((reads_flag stop).takes bytes a.0.0 a.0.1 fits a.1).0 in
    let second = nodes_take (length a.0.1) 1 stop a.0.1 b.0 first.rest_bytes b.1 in
    let nothing : b.0.1 ≡ [] = nil_from_length b.0.1 (eqb-true _ _ g.0) in
    let both = (Takes-then bytes (bit a.0.0 ∷ []) a.0.1 (joined_by head_spelling b.0.0) b.0.1 first second.0).parts in
    let whole : bytes ≡ tree_spelling made = both ∙ ap (λ (r : List ℕ). (bit a.0.0 ∷ joined_by head_spelling b.0.0) ++ r) nothing ∙ append-nil (bit a.0.0 ∷ joined_by head_spelling b.0.0) in
    subst (λ (v : RawTree). (bytes ≡ tree_spelling v) × (are_trees 1 v.nodes ≡ true)) g.1 (whole, second.1)

pub tree_again : (stop : ℕ) (t : RawTree) → are_trees 1 t.nodes ≡ true → AllByRecursion IsHead t.nodes → tree_at stop (tree_spelling t) ≡ Ok t
unfolding tree_at
tree_again stop t trees fits =
    let text : List ℕ = joined_by head_spelling t.nodes in
    let nodes : nodes_at (length text) 1 stop text ≡ Ok (t.nodes, []) = ap (nodes_at (length text) 1 stop) (sym (append-nil text)) ∙ nodes_again (length text) 1 stop t.nodes [] (enough t.nodes) trees fits in
    rw ((reads_flag stop).again t.padded text tt, nodes) refl
