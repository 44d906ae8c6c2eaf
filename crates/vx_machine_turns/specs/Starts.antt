-- What the task of a form begins with, and what its start refuses.
use Rattle.std.specs.Prelude.{ℕ, ◌-◌, Bool, true, false, if◌then◌else◌, ◌||◌, List, [], ◌∷◌, Option, Some, None}
use Rattle.vx_path.specs.Path.{Eof, eof_path}
use Rattle.vx_strategy_spec.specs.StrategyData.{by_blocks, by_bytes, into_one}
use Rattle.vx_plan.specs.PlanData.{Setting, What, not_struct, duplicate_field}
use Rattle.vx_plan.specs.SourcePlan.{first_what}
use Rattle.vx_plan.specs.ZonedNode.{recorded, forbidden_faults}
use Rattle.vx_machine_turns.specs.Forms.{Form, Forms, flat_form, chunked_form, grouped_form, compressed_form, dict_form, zoned_form, no_struct_form, struct_form, list_form, no_forms, form_then, form_type, Writer}
use Rattle.vx_machine_turns.specs.Locals.{Local, flat_empty, chunked_local, struct_local, list_local, blocks_local, bytes_local, collect_local, compressed_local, dict_local, zoned_local, idle_local}
use Rattle.vx_machine_turns.specs.Acts.{Seed, or_else}

-- what a node refuses before a chunk comes: the first fault of its empty stream, not ended
abbrev mutual
  pub start_fault : Setting → Form → Bool → Option What
  start_fault s (flat_form o t) m = None
  start_fault s (chunked_form t k) m = None
  start_fault s (grouped_form g t k) m = start_fault s k m
  start_fault s (compressed_form which room t k) m = start_fault s k m
  start_fault s (dict_form o t c v f) m = None
  start_fault s (zoned_form o t k stats) true = start_fault s k true
  start_fault s (zoned_form o t k stats) false = or_else (first_what (forbidden_faults s.allowed (recorded o t))) (start_fault s k false)
  start_fault s (no_struct_form t) m = Some not_struct
  start_fault s (struct_form fs n (Some name) v ks) m = Some (duplicate_field name)
  start_fault s (struct_form fs n None v ks) m = or_else (if n then start_fault s v m else None) (start_faults s ks (m || n))
  start_fault s (list_form t n e o v) m = or_else (start_fault s e m) (or_else (start_fault s o m) (if n then start_fault s v m else None))

  -- the first of several
  pub start_faults : Setting → Forms → Bool → Option What
  start_faults s no_forms m = None
  start_faults s (form_then f fs) m = or_else (start_fault s f m) (start_faults s fs m)

abbrev pub marked_forms : Bool → Forms → List Writer
marked_forms m no_forms = []
marked_forms m (form_then f fs) = (m, f) ∷ marked_forms m fs

-- fields are marked where a nullable struct stands above or here, validity only where one stands above
abbrev pub struct_columns_of : Bool → Bool → Form → Forms → List Writer
struct_columns_of n m v ks = if n then (m, v) ∷ marked_forms (m || n) ks else marked_forms (m || n) ks

abbrev pub list_columns_of : Bool → Bool → Form → Form → Form → List Writer
list_columns_of n m e o v = (m, e) ∷ (m, o) ∷ (if n then (m, v) ∷ [] else [])

-- a form's local before an item comes, by its mark, its task's name and its eof path; a marked zoned node is its child alone
abbrev pub local_of : Form → Bool → List ℕ → Eof → Local
local_of (flat_form o t) m name e = flat_empty o t
local_of (chunked_form t k) m name e = chunked_local (record { name = name; mark = m; type = t; child = k }) 0 e 0
local_of (grouped_form (by_blocks o) t k) m name e = blocks_local o (record { name = name; mark = m; type = t; child = k; eof = e }) [] None 0
local_of (grouped_form (by_bytes size) t k) m name e = bytes_local size (record { name = name; mark = m; type = t; child = k; eof = e }) [] None 0
local_of (grouped_form into_one t k) m name e = collect_local (record { name = name; mark = m; type = t; child = k; eof = e }) None 0
local_of (compressed_form which room t k) m name e = compressed_local (record { name = name; mark = m; which = which; room = room; child = k; eof = e })
local_of (dict_form o t c v f) m name e = dict_local (record { name = name; mark = m; options = o; type = t; codes = c; values = v; fallback = f; eof = e })
local_of (zoned_form o t k stats) true name e = local_of k true name e
local_of (zoned_form o t k stats) false name e = zoned_local (record { name = name; options = o; type = t; child = k; table = stats; eof = e }) [] o.zone_len 0 0
local_of (no_struct_form t) m name e = idle_local
local_of (struct_form fs n (Some a) v ks) m name e = idle_local
local_of (struct_form fs n None v ks) m name e = struct_local (record { name = name; fields = fs; nullable = n; writers = struct_columns_of n m v ks; eof = e }) 0
local_of (list_form t n es os v) m name e = list_local (record { name = name; elements = t; nullable = n; writers = list_columns_of n m es os v; eof = e }) true 0 0

-- by child, the places of its queue beyond one
abbrev pub spares : Form → Bool → List ℕ
spares (compressed_form which room t k) m = (room - 1) ∷ []
spares (zoned_form o t k stats) true = spares k true
spares (zoned_form o t k stats) false = (o.concurrency - 1) ∷ []
spares (flat_form o t) m = []
spares (chunked_form t k) m = []
spares (grouped_form g t k) m = []
spares (dict_form o t c v f) m = []
spares (no_struct_form t) m = []
spares (struct_form fs n name v ks) m = []
spares (list_form t n e o v) m = []

abbrev pub seed_of : Form → Bool → List ℕ → Eof → Seed
seed_of f m name e = record { type = form_type f; name = name; spare = spares f m; eof = eof_path e; local = local_of f m name e }
