-- Lists of ids: a context of layouts, and the aggregates that a session knows.
use Rattle.std.specs.Prelude.{ℕ, zero, suc, ◌&&◌, ◌||◌, ◌^◌, not, nat_lt, bytes_eq, Bool, true, false, if◌then◌else◌, List, [], ◌∷◌, length, Option, Some, None}
use Rattle.vx_aggregate_spec.specs.Aggregate.{maximum, minimum, bounded_maximum, bounded_minimum, null_count, sum, bloom, aggregate_id}

abbrev pub is_listed : List ℕ → List (List ℕ) → Bool
is_listed id [] = false
is_listed id (other ∷ ids) = bytes_eq other id || is_listed id ids

-- none stands twice
abbrev pub are_distinct : List (List ℕ) → Bool
are_distinct [] = true
are_distinct (id ∷ ids) = not (is_listed id ids) && are_distinct ids

-- ids that a node can name by their places: none twice, and at most 2^16
abbrev pub is_context : List (List ℕ) → Bool
is_context ids = not (nat_lt (2 ^ 16) (length ids)) && are_distinct ids

-- the id at the place
abbrev pub id_at : List (List ℕ) → ℕ → Option (List ℕ)
id_at [] n = None
id_at (id ∷ ids) zero = Some id
id_at (id ∷ ids) (suc n) = id_at ids n

abbrev pub further : Option ℕ → Option ℕ
further None = None
further (Some n) = Some (suc n)

-- the place of the id, where it is listed
abbrev pub place_of : List ℕ → List (List ℕ) → Option ℕ
place_of id [] = None
place_of id (other ∷ ids) = if bytes_eq other id then Some 0 else further (place_of id ids)

-- the ids of all aggregates
abbrev pub aggregate_ids : List (List ℕ)
aggregate_ids = aggregate_id maximum ∷ aggregate_id minimum ∷ aggregate_id (bounded_maximum 1) ∷ aggregate_id (bounded_minimum 1) ∷ aggregate_id null_count ∷ aggregate_id sum ∷ aggregate_id (bloom 1) ∷ []
