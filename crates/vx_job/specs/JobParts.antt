-- The values at the keys of a job.
use Rattle.std.specs.Prelude.{ℕ, ◌||◌, Bool, false, if◌then◌else◌, List, [], ◌∷◌, codes, bytes_eq, Option, Some, None, is_none, option_map, option_and_then}
use Rattle.serde_json.specs.Data.{Data}
use Rattle.serde_json.specs.Find.{as_str}
use Rattle.vx_model.specs.declared.encoding.EncodingId.{EncodingId}
use Rattle.vx_model.specs.Numbers.{encoding_id}
use Rattle.vx_model.specs.Distinct.{first_repeat}
use Rattle.vx_encodings.specs.AllEncodings.{all_encodings}
use Rattle.vx_session.specs.Ids.{aggregate_ids}
use Rattle.vx_json.specs.Steps.{given, when}
use Rattle.vx_json.specs.Values.{all, at, whole, whole_below, or_null, has_members}

-- ---- keys

abbrev pub keys : List (List ℕ)
keys = codes "schema" ∷ codes "strategy" ∷ codes "batches" ∷ codes "schedule" ∷ codes "encodings" ∷ codes "aggregates" ∷ codes "marked" ∷ codes "next" ∷ codes "faults" ∷ []

-- ---- values

-- the value f of what stands at a key, or this one where nothing does
unfoldable pub or_default : {A : Type 0} → A → (Data → Option A) → Option Data → Option A
or_default x f None = Some x
or_default x f (Some d) = f d

unfoldable pub first_named : List ℕ → List EncodingId → Option EncodingId
first_named name [] = None
first_named name (e ∷ es) = if bytes_eq name (encoding_id e) then Some e else first_named name es

-- the encoding of a name
unfoldable pub encoding_of : Data → Option EncodingId
encoding_of d = option_and_then (λ name. first_named name all_encodings) (as_str d)

unfoldable pub distinct : List EncodingId → Option (List EncodingId)
distinct es = when (is_none (first_repeat es)) (Some es)

unfoldable pub encodings_of : Data → Option (List EncodingId)
encodings_of d = option_and_then distinct (all encoding_of d)

unfoldable pub is_among : List ℕ → List (List ℕ) → Bool
is_among name [] = false
is_among name (id ∷ ids) = bytes_eq name id || is_among name ids

-- a known id
abbrev pub known : List ℕ → Option (List ℕ)
known name = when (is_among name aggregate_ids) (Some name)

unfoldable pub id_of : Data → Option (List ℕ)
id_of d = option_and_then known (as_str d)

-- ids, or null
unfoldable pub aggregates_of : Data → Option (Option (List (List ℕ)))
aggregates_of d = or_null (all id_of) d

-- 0 to 2^32
unfoldable pub next_of : Data → Option ℕ
next_of d = whole_below 4294967297 d

-- the calls that fail, by their numbers
pub record FailingCalls : Type 0 where
  pub source : List ℕ
  pub sink : List ℕ
  pub compress : List ℕ

abbrev pub failing : List ℕ → List ℕ → List ℕ → FailingCalls
failing source sink compress = record { source = source; sink = sink; compress = compress }

unfoldable pub faults_of : Data → Option FailingCalls
faults_of d = when (has_members 3 d) (given (given (option_map failing (at (all whole) (codes "source") d)) (at (all whole) (codes "sink") d)) (at (all whole) (codes "compress") d))
