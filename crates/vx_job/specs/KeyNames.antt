-- The names of the places in a job.
use Rattle.std.specs.Prelude.{ℕ, List, codes}
use Rattle.vx_job.specs.declared.error.Key.{Key}
use Rattle.vx_job.specs.declared.error.Key.TheVariants as places

abbrev pub key_name : Key → List ℕ
key_name places.Json = codes "json"
key_name places.Job = codes "job"
key_name places.Schema = codes "schema"
key_name places.Strategy = codes "strategy"
key_name places.Batches = codes "batches"
key_name places.Schedule = codes "schedule"
key_name places.Encodings = codes "encodings"
key_name places.Aggregates = codes "aggregates"
key_name places.Marked = codes "marked"
key_name places.Next = codes "next"
key_name places.Faults = codes "faults"
key_name places.Dtype = codes "dtype"
key_name places.Bytes = codes "bytes"
key_name places.Layouts = codes "layouts"
key_name places.Registered = codes "registered"
key_name places.AllowUnknown = codes "allow_unknown"
key_name places.Depth = codes "depth"
key_name places.Nodes = codes "nodes"
