-- The layout of each plan names the segments that are written.
use Rattle.std.proofs.Common.{false, sym}
use Rattle.std.proofs.lemmas.Bool.{true≢false}
use Rattle.vx_plan.proofs.Relate.{induct}
use Rattle.vx_layout_segment_laws.specs.Statements.{LayoutsNamePairs}
use Rattle.vx_layout_segment_laws.proofs.NodeSegments.{Names, flat_names, chunked_names, grouped_names, compressed_names, dict_names, zoned_names}
use Rattle.vx_layout_segment_laws.proofs.ColumnSegments.{not_struct_names, struct_names, list_names}

pub layouts_name_pairs : LayoutsNamePairs
layouts_name_pairs s w t m items e encodes clean = (induct s false (λ t k. Names k) (record {
  flat_case = λ o t. flat_names s encodes o t;
  chunked_case = λ t k r. chunked_names t k r;
  grouped_case = λ g a t k r. grouped_names g t k r;
  compressed_case = λ which room a t k r. compressed_names s which room t k r;
  dict_case = λ o t is c v f x y z. dict_names s o t c v f x y z;
  zoned_case = λ o a t k f r rs. zoned_names s o t k f r rs;
  not_struct_case = λ t. not_struct_names t;
  struct_case = λ fs n dup v ks r rs. struct_names fs n dup v ks r rs;
  list_case = λ t n e o v x y z. list_names t n e o v x y z;
}) w (λ a. absurd (true≢false (sym a))) t).names m items e clean
