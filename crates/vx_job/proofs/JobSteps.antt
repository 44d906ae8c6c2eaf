-- From bytes to a value.
use Rattle.std.proofs.Common.{◌≡◌, refl, ap, ◌∙◌, ◌≤◌, false, List, ℕ, length, Option, Some, Result, Ok, Err, ltb}
use Rattle.std.specs.Prelude.{IsUtf8, IfOk}
use Rattle.std.proofs.lemmas.Bool.{le-ltb}
use Rattle.std.proofs.lemmas.Str.{IsUtf8-from_is_utf8, is_utf8-from_IsUtf8}
use Rattle.serde_json.specs.Data.{Data}
use Rattle.serde_json.specs.Read.{read}
use Rattle.serde_json.proofs.Views.{members_len-members_view}
use Rattle.vx_json.specs.declared.error.JsonError.{JsonError}
use Rattle.vx_json.specs.declared.error.JsonError.TheVariants as values
use Rattle.vx_json.specs.Views as reads
use Rattle.vx_job.specs.declared.error.Key.{Key}
use Rattle.vx_job.specs.JobText.{limit, json_of, found}
use Rattle.vx_job.specs.JobView.{Gives}
use Rattle.vx_job.specs.Refusals.{at_key}

pub json_is : (bytes : List ℕ) (v : Data) → length bytes ≤ limit → IsUtf8 bytes → read bytes ≡ Some v → json_of bytes ≡ Ok v
json_is bytes v short utf8 is =
    let within : ltb limit (length bytes) ≡ false = le-ltb limit (length bytes) short in
    rw (within, is_utf8-from_IsUtf8 bytes utf8, is) refl

pub ruleset json_rules = (IsUtf8-from_is_utf8, is_utf8-from_IsUtf8)

-- what was read at a key; p is the definition's word for it
pub at_gives : {X Y : Type 0} (view : X → Y) (key : Key) (r : Result X JsonError) (o p : Option Y) → reads.Gives view r o → p ≡ o → Gives view (at_key key r) (found key p)
at_gives view key (Ok x) o p h is = ap (found key) (is ∙ h)
at_gives view key (Err values.Wrong) o p h is = ap (found key) (is ∙ h)
at_gives view key (Err values.OutOfMemory) o p h is = tt

pub at_holds : {X : Type 0} (P : X → Type 0) (key : Key) (r : Result X JsonError) → IfOk r P → IfOk (at_key key r) P
at_holds P key (Ok x) h = h
at_holds P key (Err values.Wrong) h = h
at_holds P key (Err values.OutOfMemory) h = h

pub ruleset at_rules = (at_gives, at_holds)

pub ruleset key_rules = (members_len-members_view)
