-- The flags of zones, and what a flag promises.
use Rattle.std.proofs.Common.{◌≡◌, ℕ, zero, suc, ◌+◌, ◌-◌, ◌*◌, ◌<◌, ◌≤◌, Bool, true, false, List, [], ◌∷◌, ◌++◌, length, drop, refl, sym, ap, ◌∙◌, subst, arith, append_assoc, append-nil}
use Rattle.std.specs.Prelude.{Some, slice_get, if◌then◌else◌, nat_lt}
use Rattle.vx_hash.specs.XxHash3.{xxhash3_64}
use Rattle.vx_model.specs.ValueData.{ValueData}
use Rattle.vx_zone_spec.specs.Pruning.{Predicate, predicate_fits, falsified, ruled_out}
use Rattle.vx_zone_spec.specs.ZoneMap.{ZoneMap, record_of, zone_rows, skips_from, skips}
use Rattle.vx_zone_spec.proofs.HashLaws.{hash_is_small}
use Rattle.vx_zone_spec.proofs.PruneLaws.{pruning_is_sound}
use Rattle.vx_model.specs.TyView.{ty}
use Rattle.vx_zone_map.specs.declared.columns.ZoneColumn.{ZoneColumn}
use Rattle.vx_zone_map.specs.declared.map.ZoneMap as maps
use Rattle.vx_zone_map.specs.Answers.{NoneMatches}
use Rattle.vx_zone_map.specs.Columns.{entries}
use Rattle.vx_zone_map.specs.Comparisons.{turned}
use Rattle.vx_zone_map.specs.MapView.{zone_map}
use Rattle.vx_zone_map.proofs.ZoneRows.{one_flag, no_flag}

-- a flag is that of the row at its place
flag_at : (hash : List ℕ → ℕ) (m : ZoneMap) (p : Predicate) (k : ℕ) (rows : List ValueData) (z : ℕ) (row : ValueData) → slice_get rows z ≡ Some row → slice_get (skips_from hash m p k rows) z ≡ Some true
    → falsified hash m.column p (record_of m row) (zone_rows m (k + z)) ≡ true
flag_at hash m p k [] z row e f = cc
flag_at hash m p k (x ∷ rows) zero row e f =
    let here : k + 0 ≡ k = omega arith in
    let same : x ≡ row = cc in
    let flag : falsified hash m.column p (record_of m x) (zone_rows m k) ≡ true = cc in
    ap (λ n. falsified hash m.column p (record_of m row) (zone_rows m n)) here ∙ subst (λ y. falsified hash m.column p (record_of m y) (zone_rows m k) ≡ true) same flag
flag_at hash m p k (x ∷ rows) (suc z) row e f =
    let next : k + suc z ≡ suc k + z = omega arith in
    ap (λ n. falsified hash m.column p (record_of m row) (zone_rows m n)) next ∙ flag_at hash m p (suc k) rows z row e f

pub none_matches : (m : ZoneMap) (p : Predicate) → predicate_fits m.column p ≡ true → NoneMatches m p (skips xxhash3_64 m p)
none_matches m p fits z row vs e f of count holds w i =
    let here : 0 + z ≡ z = omega arith in
    let flag : falsified xxhash3_64 m.column p (record_of m row) (zone_rows m (0 + z)) ≡ true = flag_at xxhash3_64 m p 0 m.zones z row e f in
    pruning_is_sound xxhash3_64 m.column p vs (record_of m row) hash_is_small of fits holds
    (subst (λ n. falsified xxhash3_64 m.column p (record_of m row) n ≡ true) (ap (zone_rows m) here ∙ sym count) flag) w i

-- ---- the flags, one more and all

module _ (m : maps.ZoneMap) (p : Predicate) where
  pub flag_more : (done : List Bool) (place rows : ℕ) (b : Bool) (columns : List ZoneColumn) (all : List Bool) → place < m.zones → columns ≡ m.columns.items
      → rows ≡ (if nat_lt (suc place) m.zones then m.zone_len else m.row_count - m.zone_len * place) → b ≡ ruled_out xxhash3_64 (ty m.dtype) (entries place columns) rows (turned false p)
      → done ++ skips_from xxhash3_64 (zone_map m) p place (drop place (zone_map m).zones) ≡ all
      → (done ++ b ∷ []) ++ skips_from xxhash3_64 (zone_map m) p (place + 1) (drop (place + 1) (zone_map m).zones) ≡ all
  flag_more done place rows b columns all h c e f so_far =
      let flag : b ≡ falsified xxhash3_64 (ty m.dtype) p (entries place m.columns.items) rows = f ∙ ap (λ (cs : List ZoneColumn). falsified xxhash3_64 (ty m.dtype) p (entries place cs) rows) c in
      append_assoc done (b ∷ []) (skips_from xxhash3_64 (zone_map m) p (place + 1) (drop (place + 1) (zone_map m).zones))
      ∙ ap (λ (fs : List Bool). done ++ fs) (sym (one_flag (zone_map m) m.columns.items m.names xxhash3_64 p m.zones refl place rows b h e flag))
      ∙ so_far

  pub flags_all : (done : List Bool) (place : ℕ) (all : List Bool) → m.zones ≤ place → done ++ skips_from xxhash3_64 (zone_map m) p place (drop place (zone_map m).zones) ≡ all → done ≡ all
  flags_all done place all h so_far =
      sym (append-nil done) ∙ ap (λ (fs : List Bool). done ++ fs) (sym (no_flag (zone_map m) m.columns.items m.names xxhash3_64 p m.zones refl place h)) ∙ so_far

  pub none_skipped : (flags : List Bool) → flags ≡ skips xxhash3_64 (zone_map m) p → predicate_fits (ty m.dtype) p ≡ true → NoneMatches (zone_map m) p flags
  none_skipped flags e fits = subst (NoneMatches (zone_map m) p) (sym e) (none_matches (zone_map m) p fits)

pub ruleset prune_rules = (append_assoc, append-nil)
