-- What nodes are seen as, and steps of the loops.
use Rattle.std.proofs.Common.{◌≡◌, ℕ, suc, ◌+◌, ◌<◌, List, [], ◌∷◌, ◌++◌, length, get_or, drop, map, refl, ap, rules, append_assoc}
use Rattle.std.proofs.lemmas.List.{append-nil, drop_more, drop_all, length-map, map_push, map_more}
use Rattle.std.specs.Int.{w16, to_le_bytes}
use Rattle.vx_model.specs.Words.{joined_by}
use Rattle.vx_model.specs.CellData.{u64_bytes}
use Rattle.vx_layout_bytes.specs.declared.node.RawNode.{RawNode, out-RawNode}
use Rattle.vx_layout_bytes.specs.declared.node.RawNode as rn
use Rattle.vx_layout_bytes.specs.Node.{Node, node, nodes_of, number_of}
use Rattle.vx_layout_bytes.specs.Spelled.{u32_bytes, numbered, segment_bytes, head_bytes, spelling, spellings}
use Rattle.vx_layout_bytes.specs.Views.{raw}

pub raw_is : (n : RawNode) → raw n ≡ node (record { index = (out-RawNode n).index; rows = (out-RawNode n).rows; metadata = (out-RawNode n).metadata; segments = (out-RawNode n).segments.items }) (nodes_of (map raw (out-RawNode n).children.items))
raw_is n = search (rules, rn.the_lemmas)

-- a node is its own bytes and its children's
pub spelled_is : (n : RawNode) → spelling (raw n) ≡ head_bytes (raw n) ++ spellings (nodes_of (map raw (out-RawNode n).children.items))
spelled_is n = rw (raw_is n) refl

pub number_is : (ns : List Node) → number_of (nodes_of ns) ≡ length ns
number_is [] = refl
number_is (n ∷ ns) = ap suc (number_is ns)

pub head_is : (n : RawNode) → head_bytes (raw n) ≡ to_le_bytes w16 (out-RawNode n).index ++ (u64_bytes (out-RawNode n).rows ++ (numbered (out-RawNode n).metadata ++ (segment_bytes (out-RawNode n).segments.items ++ u64_bytes (length (out-RawNode n).children.items))))
head_is n = rw (raw_is n, number_is, length-map) refl

pub drop_spelled : (ns : List RawNode) (i : ℕ) (n : RawNode) → i < length ns → n ≡ get_or ns i n
    → spellings (nodes_of (map raw (drop i ns))) ≡ spelling (raw n) ++ spellings (nodes_of (map raw (drop (i + 1) ns)))
drop_spelled ns i n lt is = rw (drop_more ns i n lt, ← is) refl

pub drop_segments : (ns : List ℕ) (i : ℕ) → i < length ns → joined_by u32_bytes (drop i ns) ≡ u32_bytes (get_or ns i 0) ++ joined_by u32_bytes (drop (i + 1) ns)
drop_segments ns i lt = rw (drop_more ns i 0 lt) refl

pub ruleset field_rules = (append_assoc, append-nil, drop_all, drop_segments)

pub ruleset own_rules = (append_assoc, head_is)

pub ruleset write_rules = (append_assoc, append-nil, drop_all, drop_spelled, spelled_is)

pub ruleset copy_rules = (map_push, map_more, raw_is)
