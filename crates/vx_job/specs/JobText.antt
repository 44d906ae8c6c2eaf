-- What job the bytes of an input are.
use Rattle.std.specs.Prelude.{ℕ, nat_lt, Bool, false, if◌then◌else◌, List, [], length, codes, Option, Some, None, option_and_then, Result, Ok, Err}
use Rattle.std.specs.Str.{is_utf8}
use Rattle.serde_json.specs.Data.{Data, null, boolean, number, string, array, object, Members}
use Rattle.serde_json.specs.Find.{get_member, as_bool, as_array}
use Rattle.serde_json.specs.Read.{read}
use Rattle.vx_model.specs.declared.encoding.EncodingId.{EncodingId}
use Rattle.vx_model.specs.Ty.{Ty}
use Rattle.vx_model.specs.ChunkData.{ChunkData}
use Rattle.vx_strategy_spec.specs.StrategyData.{StrategyData}
use Rattle.vx_json.specs.Lists.{each}
use Rattle.vx_chunk_json.specs.Types.{type_of}
use Rattle.vx_chunk_json.specs.Chunks.{batch_of}
use Rattle.vx_json.specs.Values.{all, whole}
use Rattle.vx_strategy_json.specs.StrategyText.{strategy_of}
use Rattle.vx_job.specs.declared.error.Key.{Key}
use Rattle.vx_job.specs.declared.error.Key.TheVariants as places
use Rattle.vx_json.specs.Members.{has_only}
use Rattle.vx_encodings.specs.AllEncodings.{all_encodings}
use Rattle.vx_job.specs.JobParts.{keys, or_default, encodings_of, aggregates_of, next_of, FailingCalls, failing, faults_of}

-- how a job is written
pub record JobOptions : Type 0 where
  pub schedule : List ℕ
  pub encodings : List EncodingId
  -- None: no limit
  pub aggregates : Option (List (List ℕ))
  pub marked : Bool
  pub next : ℕ
  pub faults : FailingCalls

pub record JobData : Type 0 where
  pub schema : Ty
  pub strategy : StrategyData
  pub batches : List ChunkData
  pub options : JobOptions

-- ---- one key after the other

abbrev pub found : {A : Type 0} → Key → Option A → Result A Key
found key None = Err key
found key (Some x) = Ok x

abbrev pub and_then : {A B : Type 0} → Result A Key → (A → Result B Key) → Result B Key
and_then (Err key) f = Err key
and_then (Ok x) f = f x

unfoldable pub schema_in : Members → Result Ty Key
schema_in ms = found places.Schema (option_and_then type_of (get_member (codes "schema") ms))

unfoldable pub strategy_in : Members → Result StrategyData Key
strategy_in ms = found places.Strategy (option_and_then strategy_of (get_member (codes "strategy") ms))

-- a list of batches of the schema
unfoldable pub batches_of : Ty → Data → Option (List ChunkData)
batches_of t d = option_and_then (each (batch_of t)) (as_array d)

unfoldable pub batches_in : Ty → Members → Result (List ChunkData) Key
batches_in t ms = found places.Batches (option_and_then (batches_of t) (get_member (codes "batches") ms))

unfoldable pub schedule_in : Members → Result (List ℕ) Key
schedule_in ms = found places.Schedule (or_default [] (all whole) (get_member (codes "schedule") ms))

unfoldable pub encodings_in : Members → Result (List EncodingId) Key
encodings_in ms = found places.Encodings (or_default all_encodings encodings_of (get_member (codes "encodings") ms))

unfoldable pub aggregates_in : Members → Result (Option (List (List ℕ))) Key
aggregates_in ms = found places.Aggregates (or_default None aggregates_of (get_member (codes "aggregates") ms))

unfoldable pub marked_in : Members → Result Bool Key
marked_in ms = found places.Marked (or_default false as_bool (get_member (codes "marked") ms))

unfoldable pub next_in : Members → Result ℕ Key
next_in ms = found places.Next (or_default 0 next_of (get_member (codes "next") ms))

unfoldable pub faults_in : Members → Result FailingCalls Key
faults_in ms = found places.Faults (or_default (failing [] [] []) faults_of (get_member (codes "faults") ms))

unfoldable pub options_in : Members → Result JobOptions Key
options_in ms =
    and_then (schedule_in ms) (λ schedule. and_then (encodings_in ms) (λ ids. and_then (aggregates_in ms) (λ aggregates.
    and_then (marked_in ms) (λ marked. and_then (next_in ms) (λ next. and_then (faults_in ms) (λ faults.
    Ok (record { schedule = schedule; encodings = ids; aggregates = aggregates; marked = marked; next = next; faults = faults })))))))

-- the keys are checked in order, and the first that is missing or wrong is told
unfoldable pub job_in : Members → Result JobData Key
job_in ms =
    and_then (schema_in ms) (λ schema. and_then (strategy_in ms) (λ strategy. and_then (batches_in schema ms) (λ batches. and_then (options_in ms) (λ options.
    Ok (record { schema = schema; strategy = strategy; batches = batches; options = options })))))

-- the members of an object that has no keys but these; another key comes before one that is missing
unfoldable pub object_of : List (List ℕ) → Data → Result Members Key
object_of ks null = Err places.Job
object_of ks (boolean b) = Err places.Job
object_of ks (number n) = Err places.Job
object_of ks (string s) = Err places.Job
object_of ks (array ds) = Err places.Job
object_of ks (object ms) = if has_only ks ms then Ok ms else Err places.Job

unfoldable pub job_of : Data → Result JobData Key
job_of d = and_then (object_of keys d) job_in

-- the longest input, in bytes
abbrev pub limit : ℕ
limit = 67108864

-- the JSON value that the bytes of an input are
abbrev pub json_of : List ℕ → Result Data Key
json_of bytes = if nat_lt limit (length bytes) then Err places.Json else (if is_utf8 bytes then found places.Json (read bytes) else Err places.Json)

-- the job that the bytes are, or the first key at fault
abbrev pub job : List ℕ → Result JobData Key
job bytes = and_then (json_of bytes) job_of
