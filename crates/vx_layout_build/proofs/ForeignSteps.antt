-- Steps over nodes that are kept as they are.
use Rattle.std.proofs.Common.{◌≡◌, ℕ, zero, suc, ◌+◌, ◌<◌, ◌≤◌, ◌++◌, List, [], ◌∷◌, length, get_or, take, drop, map, refl, arith}
use Rattle.std.proofs.lemmas.List.{drop_more, drop_all, take_more, map_push}
use Rattle.vx_model.specs.Ty.{Ty}
use Rattle.vx_layout_spec.specs.LayoutTree.{LayoutData, lays_of, layout, foreign_kind}
use Rattle.vx_layout_bytes.specs.declared.node.RawNode.{RawNode, out-RawNode}
use Rattle.vx_layout_bytes.specs.Node.{nodes_of}
use Rattle.vx_layout_bytes.specs.Values.{depth, depths}
use Rattle.vx_layout_bytes.specs.Views.{raw}
use Rattle.vx_layout_bytes.proofs.Nodes.{raw_is}
use Rattle.vx_session.specs.Ids.{id_at}
use Rattle.vx_session.specs.Builder.{unknown_in, unknown_among, unknown_here, earlier, foreign, all_foreign, id_or_none}
use Rattle.vx_layout_tree.specs.declared.layout.Layout.{Layout}
use Rattle.vx_layout_tree.specs.LayoutView.{layout_data}

pub unknown_is : (ids : List (List ℕ)) (n : RawNode) → unknown_in ids (raw n) ≡ unknown_here (out-RawNode n).index (id_at ids (out-RawNode n).index) (unknown_among ids (nodes_of (map raw (out-RawNode n).children.items)))
unknown_is ids n = rw (raw_is n) refl

pub drop_unknown : (ids : List (List ℕ)) (ns : List RawNode) (i : ℕ) (n : RawNode) → i < length ns → n ≡ get_or ns i n
    → unknown_among ids (nodes_of (map raw (drop i ns))) ≡ earlier (unknown_in ids (raw n)) (unknown_among ids (nodes_of (map raw (drop (i + 1) ns))))
drop_unknown ids ns i n lt is = rw (drop_more ns i n lt, ← is) refl

pub ruleset unknown_rules = (unknown_is, drop_unknown, drop_all)

pub foreign_is : (ids : List (List ℕ)) (t : Ty) (n : RawNode) → foreign ids t (raw n)
    ≡ layout (foreign_kind (id_or_none (id_at ids (out-RawNode n).index)) (out-RawNode n).metadata) t (out-RawNode n).rows (out-RawNode n).segments.items (all_foreign ids t (nodes_of (map raw (out-RawNode n).children.items)))
foreign_is ids t n = rw (raw_is n) refl

-- those of the first so many, one more
more : (ids : List (List ℕ)) (t : Ty) (ns : List RawNode) (ls : List (LayoutData ℕ)) (n : RawNode) (l : LayoutData ℕ) → lays_of ls ≡ all_foreign ids t (nodes_of (map raw ns)) → l ≡ foreign ids t (raw n)
    → lays_of (ls ++ l ∷ []) ≡ all_foreign ids t (nodes_of (map raw (ns ++ n ∷ [])))
more ids t [] [] n l e is = rw is refl
more ids t [] (k ∷ ls) n l e is = absurd (cc e)
more ids t (m ∷ ns) [] n l e is = absurd (cc e)
more ids t (m ∷ ns) (k ∷ ls) n l e is = let p = cut e in rw (p.0, more ids t ns ls n l p.1 is) refl
  where
    cut : lays_of (k ∷ ls) ≡ all_foreign ids t (nodes_of (map raw (m ∷ ns))) → (k ≡ foreign ids t (raw m)) × (lays_of ls ≡ all_foreign ids t (nodes_of (map raw ns)))
    cut e = (cc e, cc e)

pub foreign_more : (ids : List (List ℕ)) (t : Ty) (ns : List RawNode) (i : ℕ) (ls : List Layout) (n : RawNode) (l : Layout) → i < length ns → n ≡ get_or ns i n
    → lays_of (map layout_data ls) ≡ all_foreign ids t (nodes_of (map raw (take i ns))) → layout_data l ≡ foreign ids t (raw n)
    → lays_of (map layout_data (ls ++ l ∷ [])) ≡ all_foreign ids t (nodes_of (map raw (take (i + 1) ns)))
foreign_more ids t ns i ls n l lt is e f = rw (take_more ns i n lt, ← is, map_push layout_data ls l) (more ids t (take i ns) (map layout_data ls) n (layout_data l) e f)

-- how deep nodes are
pub deep_is : (n : RawNode) → depth (raw n) ≡ suc (depths (nodes_of (map raw (out-RawNode n).children.items)))
deep_is n = rw (raw_is n) refl

pub deep_at : (ns : List RawNode) (i : ℕ) (n : RawNode) → i < length ns → n ≡ get_or ns i n → depth (raw n) ≤ depths (nodes_of (map raw ns))
deep_at [] i n lt is = absurd (omega (arith, lt))
deep_at (m ∷ ns) zero n lt is = rw is (omega arith)
deep_at (m ∷ ns) (suc i) n lt is = omega (arith, deep_at ns i n (omega (arith, lt)) is)

pub ruleset foreign_rules = (foreign_is, foreign_more, deep_is, deep_at)

pub ruleset segment_rules = (map_push, take_more)
