-- Steps of reading and writing bytes.
use Rattle.std.proofs.Common.{◌≡◌, ℕ, ◌+◌, ◌-◌, ◌≤◌, ◌<◌, List, [], ◌++◌, length, take, drop, Option, Some, None, refl, sym, ap, subst, inl, inr, ◌∙◌, arith, append_assoc, ltb, Bool, true, false}
use Rattle.std.proofs.lemmas.List.{append-nil, take-append-drop, length-take, length-drop, length-append, take_at, drop-drop, nil_from_length}
use Rattle.std.specs.Io.KnownBytes.{Keeps, Appends, Consumes}
use Rattle.std.specs.Prelude.{Result, Ok, Err}
use Rattle.vx_job.specs.declared.error.Key.{Key}
use Rattle.vx_job.specs.JobText.{JobData, limit, json_of, and_then, job_of, job}
use Rattle.vx_job.specs.TreeText.{TreeData, tree_of, tree_job}
use Rattle.serde_json.specs.Data.{Data}
use Rattle.std.proofs.Math.Seq.{take-add}
use Rattle.std.proofs.lemmas.Bool.{ltb-true, ltb-false, lt-ltb}
use Rattle.std.specs.Prelude.{◌⊎◌}
use Rattle.vx_fault.specs.Counts.{Counts, IsCalm}
use Rattle.vx_run.specs.declared.status.Status.{Status}
use Rattle.vx_run.specs.declared.status.Status.TheVariants.{Done, Usage, BadJob, Refused, InputFault, OutputFault, OutOfMemory}
use Rattle.vx_session.specs.Made.{Made}
use Rattle.vx_run.specs.declared.command.Command.{Command}
use Rattle.vx_run.specs.declared.command.Command.TheVariants.{Write, Tree}
use Rattle.vx_run.specs.Summary.{summary}
use Rattle.vx_run.specs.Answers.{IsText, IsAnswer, JobAnswer, SetsNoFaults, IsValid}
use Rattle.vx_run.specs.TreeAnswers.{made_status, job_layout, IsTreeAnswer, tree_status}
use Rattle.vx_run.specs.Commands.{Answers}
use Rattle.vx_run.specs.Running.{HasRead, Took, Finishes, Ends, is_input_fault, is_output_fault, is_usage}

pub consumes_none : (a : Option (List ℕ)) → Consumes a a []
consumes_none None = tt
consumes_none (Some xs) = refl

pub consumes_more : (a b c : Option (List ℕ)) (xs ys : List ℕ) → Consumes a b xs → Consumes b c ys → Consumes a c (xs ++ ys)
consumes_more None b c xs ys h k = tt
consumes_more (Some zs) None c xs ys h k = absurd h
consumes_more (Some zs) (Some ws) None xs ys h k = absurd k
consumes_more (Some zs) (Some ws) (Some us) xs ys h k = h ∙ (ap (λ (r : List ℕ). xs ++ r) k ∙ sym (append_assoc xs ys us))

pub appends_none : (a : Option (List ℕ)) → Appends a a []
appends_none None = tt
appends_none (Some xs) = sym (append-nil xs)

pub appends_more : (a b c : Option (List ℕ)) (xs ys : List ℕ) → Appends a b xs → Appends b c ys → Appends a c (xs ++ ys)
appends_more None b c xs ys h k = tt
appends_more (Some zs) None c xs ys h k = absurd h
appends_more (Some zs) (Some ws) None xs ys h k = absurd k
appends_more (Some zs) (Some ws) (Some us) xs ys h k = k ∙ (ap (λ (r : List ℕ). r ++ ys) h ∙ append_assoc zs xs ys)

pub keeps_after : (a b c : Option (List ℕ)) (xs : List ℕ) → Appends a b xs → Keeps b c → Appends a c xs
keeps_after None b c xs h k = tt
keeps_after (Some zs) None c xs h k = absurd h
keeps_after (Some zs) (Some ws) None xs h k = absurd k
keeps_after (Some zs) (Some ws) (Some us) xs h k = k ∙ h

-- n more bytes behind the first ones
pub take_then : (bytes : List ℕ) (at n : ℕ) → take at bytes ++ take n (drop at bytes) ≡ take (at + n) bytes
take_then bytes at n = sym (take-add at n bytes)

-- ---- what was read is what the input tells

same_value : (read more : List ℕ) → (length read ≤ limit → more ≡ []) → json_of (read ++ more) ≡ json_of read
same_value read more ended = by_length (ltb limit (length read)) refl
  where
    by_length : (b : Bool) → ltb limit (length read) ≡ b → json_of (read ++ more) ≡ json_of read
    by_length true e =
        let long : limit < length read = ltb-true limit (length read) e in
        let longer : ltb limit (length (read ++ more)) ≡ true = lt-ltb limit (length (read ++ more)) (omega (arith, length-append read more)) in
        rw (longer, e) refl
    by_length false e =
        let short : length read ≤ limit = ltb-false limit (length read) e in
        ap json_of (ap (λ (r : List ℕ). read ++ r) (ended short) ∙ append-nil read)

pub read_value_is : (before now : Option (List ℕ)) (bytes read : List ℕ) → before ≡ Some bytes → HasRead before now read → json_of read ≡ json_of bytes
read_value_is None now bytes read told h = absurd cc
read_value_is (Some all) None bytes read told h = absurd h.consumed
read_value_is (Some all) (Some more) bytes read told h =
    let same : all ≡ bytes = cc in
    sym (ap json_of (sym same ∙ h.consumed) ∙ same_value read more h.ended)

pub answers_told : (c : Command) (before now : Option (List ℕ)) (bytes read : List ℕ) (status : Status) (text : List ℕ) → before ≡ Some bytes → HasRead before now read
    → Answers c read status text → Answers c bytes status text
answers_told Write before now bytes read status text told h answers = subst (λ (d : Result Data Key). IsAnswer (and_then d job_of) status text) (read_value_is before now bytes read told h) answers
answers_told Tree before now bytes read status text told h answers = subst (λ (d : Result Data Key). IsTreeAnswer (and_then d tree_of) status text) (read_value_is before now bytes read told h) answers

-- ---- statuses of answers

unfoldable pub is_answered : Status → Bool
is_answered Done = true
is_answered BadJob = true
is_answered Refused = true
is_answered Usage = false
is_answered InputFault = false
is_answered OutputFault = false
is_answered OutOfMemory = false

job_answered : (r : Result JobData Key) (status : Status) (text : List ℕ) → IsAnswer r status text → is_answered status ≡ true
unfolding is_answered
job_answered (Err key) status text h = ap is_answered h.0
job_answered (Ok j) Done text h = refl
job_answered (Ok j) Refused text h = refl
job_answered (Ok j) Usage text h = absurd h
job_answered (Ok j) BadJob text h = absurd h
job_answered (Ok j) InputFault text h = absurd h
job_answered (Ok j) OutputFault text h = absurd h
job_answered (Ok j) OutOfMemory text h = absurd h

made_answered : (made : Made) → is_answered (made_status made) ≡ true
unfolding is_answered
made_answered (Ok l) = refl
made_answered (Err refusal) = refl

tree_status_is : (r : Result TreeData Key) (status : Status) (text : List ℕ) → IsTreeAnswer r status text → status ≡ tree_status r
tree_status_is (Err key) status text h = h.0
tree_status_is (Ok j) status text h = h.0

tree_answered : (r : Result TreeData Key) (status : Status) (text : List ℕ) → IsTreeAnswer r status text → is_answered status ≡ true
unfolding is_answered
tree_answered (Err key) status text h = ap is_answered h.0
tree_answered (Ok j) status text h = ap is_answered h.0 ∙ made_answered (job_layout j)

answered : (c : Command) (bytes : List ℕ) (status : Status) (text : List ℕ) → Answers c bytes status text → is_answered status ≡ true
answered Write bytes status text h = job_answered (job bytes) status text h
answered Tree bytes status text h = tree_answered (tree_job bytes) status text h

-- ---- how a run ends

wrote_it : (P : Status → List ℕ → Type 0) (status : Status) (text : List ℕ) (before now : Option (List ℕ)) → is_answered status ≡ true → P status text → Appends before now text → Ends P before now status
unfolding is_answered
wrote_it P Done text before now is answers wrote = record { text = text; answers = answers; wrote = wrote }
wrote_it P Usage text before now is answers wrote = record { text = text; answers = answers; wrote = wrote }
wrote_it P BadJob text before now is answers wrote = record { text = text; answers = answers; wrote = wrote }
wrote_it P Refused text before now is answers wrote = record { text = text; answers = answers; wrote = wrote }
wrote_it P InputFault text before now is answers wrote = absurd (cc is)
wrote_it P OutputFault text before now is answers wrote = absurd (cc is)
wrote_it P OutOfMemory text before now is answers wrote = absurd (cc is)

-- A text that is an answer of its status is printed whole, or a front of it.
pub ends_by : (P : Status → List ℕ → Type 0) (status : Status) (text : List ℕ) (before now : Option (List ℕ)) (result : Status) → is_answered status ≡ true → P status text → Finishes status text before now result → Ends P before now result
ends_by P status text before now result is answers (inl all) = subst (Ends P before now) (sym all.0) (wrote_it P status text before now is answers all.1)
ends_by P status text before now result is answers (inr (inl failed, front)) = subst (Ends P before now) (sym failed) (record { status = status; text = text; answers = answers; count = front.count; wrote = front.wrote })
ends_by P status text before now result is answers (inr (inr memory, front)) = subst (Ends P before now) (sym memory) (inr (record { status = status; text = text; answers = answers; count = front.count; wrote = front.wrote }))

pub ends_so : (c : Command) (bytes : List ℕ) (status : Status) (text : List ℕ) (before now : Option (List ℕ)) (result : Status) → Answers c bytes status text → Finishes status text before now result
    → Ends (Answers c bytes) before now result
ends_so c bytes status text before now result answers finishes = ends_by (Answers c bytes) status text before now result (answered c bytes status text answers) answers finishes

not_usage : (status : Status) → is_answered status ≡ true → is_usage status ≡ false
unfolding is_answered
not_usage Usage is = absurd (cc is)
not_usage Done is = refl
not_usage BadJob is = refl
not_usage Refused is = refl
not_usage InputFault is = refl
not_usage OutputFault is = refl
not_usage OutOfMemory is = refl

not_failed : (status : Status) → is_answered status ≡ true → is_output_fault status ≡ false
unfolding is_answered
not_failed Usage is = absurd (cc is)
not_failed Done is = refl
not_failed BadJob is = refl
not_failed Refused is = refl
not_failed InputFault is = absurd (cc is)
not_failed OutputFault is = absurd (cc is)
not_failed OutOfMemory is = absurd (cc is)

-- an answer is no fault of the output
pub answers_fit : (c : Command) (bytes : List ℕ) (status : Status) (text : List ℕ) → Answers c bytes status text → is_output_fault status ≡ false
answers_fit c bytes status text answers = not_failed status (answered c bytes status text answers)

pub known_by : (status : Status) (text : List ℕ) (before now : Option (List ℕ)) (result : Status) → is_answered status ≡ true → Finishes status text before now result → is_usage result ≡ false
known_by status text before now result is (inl all) = ap is_usage all.0 ∙ not_usage status is
known_by status text before now result is (inr (inl failed, front)) = ap is_usage failed
known_by status text before now result is (inr (inr memory, front)) = ap is_usage memory

pub ends_known : (c : Command) (bytes : List ℕ) (status : Status) (text : List ℕ) (before now : Option (List ℕ)) (result : Status) → Answers c bytes status text → Finishes status text before now result → is_usage result ≡ false
ends_known c bytes status text before now result answers finishes = known_by status text before now result (answered c bytes status text answers) finishes

no_fault : (before now : ℕ) → Counts before now true → IsCalm before now → ⊥
no_fault before now rose calm = absurd (omega (arith, rose.0, rose.1, calm.0, calm.1))

-- which text belongs to a valid job: that of what is done
valid_done : (j : JobData) (status : Status) (text : List ℕ) → SetsNoFaults j → IsValid j → JobAnswer j status text → status ≡ Done
valid_done j Done text no_faults valid answers = refl
valid_done j Refused text no_faults valid answers = absurd (answers.refused.not_valid no_faults valid)
valid_done j Usage text no_faults valid answers = absurd answers
valid_done j BadJob text no_faults valid answers = absurd answers
valid_done j InputFault text no_faults valid answers = absurd answers
valid_done j OutputFault text no_faults valid answers = absurd answers
valid_done j OutOfMemory text no_faults valid answers = absurd answers

-- Where nothing fails, a run whose answers all have one status ends with it, or memory ran out.
pub calm_end : (P : Status → List ℕ → Type 0) (wanted : Status) → ((status : Status) (text : List ℕ) → P status text → status ≡ wanted) → (before now : Option (List ℕ)) (result : Status) (ins ins_now outs outs_now : ℕ)
    → Ends P before now result → Counts ins ins_now (is_input_fault result) → IsCalm ins ins_now → Counts outs outs_now (is_output_fault result) → IsCalm outs outs_now → (result ≡ wanted) ⊎ (result ≡ OutOfMemory)
calm_end P wanted only before now Done ins ins_now outs outs_now ends rose calm risen still = inl (only Done ends.text ends.answers)
calm_end P wanted only before now Usage ins ins_now outs outs_now ends rose calm risen still = inl (only Usage ends.text ends.answers)
calm_end P wanted only before now BadJob ins ins_now outs outs_now ends rose calm risen still = inl (only BadJob ends.text ends.answers)
calm_end P wanted only before now Refused ins ins_now outs outs_now ends rose calm risen still = inl (only Refused ends.text ends.answers)
calm_end P wanted only before now InputFault ins ins_now outs outs_now ends rose calm risen still = absurd (no_fault ins ins_now rose calm)
calm_end P wanted only before now OutputFault ins ins_now outs outs_now ends rose calm risen still = absurd (no_fault outs outs_now risen still)
calm_end P wanted only before now OutOfMemory ins ins_now outs outs_now ends rose calm risen still = inr refl

pub written_or_memory : (bytes : List ℕ) (j : JobData) (before now : Option (List ℕ)) (result : Status) (ins ins_now outs outs_now : ℕ)
    → job bytes ≡ Ok j → SetsNoFaults j → IsValid j
    → Ends (Answers Write bytes) before now result → Counts ins ins_now (is_input_fault result) → IsCalm ins ins_now → Counts outs outs_now (is_output_fault result) → IsCalm outs outs_now
    → (result ≡ Done) ⊎ (result ≡ OutOfMemory)
written_or_memory bytes j before now result ins ins_now outs outs_now is no_faults valid =
    calm_end (Answers Write bytes) Done (λ status text answers. valid_done j status text no_faults valid (subst (λ (k : Result JobData Key). IsAnswer k status text) is answers))
    before now result ins ins_now outs outs_now

pub shown_or_memory : (bytes : List ℕ) (before now : Option (List ℕ)) (result : Status) (ins ins_now outs outs_now : ℕ)
    → Ends (Answers Tree bytes) before now result → Counts ins ins_now (is_input_fault result) → IsCalm ins ins_now → Counts outs outs_now (is_output_fault result) → IsCalm outs outs_now
    → (result ≡ tree_status (tree_job bytes)) ⊎ (result ≡ OutOfMemory)
shown_or_memory bytes before now result ins ins_now outs outs_now =
    calm_end (Answers Tree bytes) (tree_status (tree_job bytes)) (λ status text answers. tree_status_is (tree_job bytes) status text answers) before now result ins ins_now outs outs_now

pub summed_or_memory : (n : ℕ) (before now : Option (List ℕ)) (result : Status) (outs outs_now : ℕ) → Ends (IsText Done (summary n)) before now result → is_input_fault result ≡ false
    → Counts outs outs_now (is_output_fault result) → IsCalm outs outs_now → (result ≡ Done) ⊎ (result ≡ OutOfMemory)
summed_or_memory n before now result outs outs_now ends unread risen still =
    calm_end (IsText Done (summary n)) Done (λ status text answers. answers.0) before now result 0 0 outs outs_now ends (rw unread refl) (refl, omega arith) risen still

-- a text that is printed whole, or in part, is the one of its status
pub ends_text : (wanted : Status) (line : List ℕ) (before now : Option (List ℕ)) (result : Status) → is_answered wanted ≡ true → Finishes wanted line before now result → Ends (IsText wanted line) before now result
ends_text wanted line before now result is finishes = ends_by (IsText wanted line) wanted line before now result is (refl, refl) finishes

pub ends_done : (line : List ℕ) (before now : Option (List ℕ)) (result : Status) → Finishes Done line before now result → Ends (IsText Done line) before now result
unfolding is_answered
ends_done line before now result finishes = ends_text Done line before now result refl finishes

-- ---- an input in memory

pub read_front : (bytes copied : List ℕ) (at n : ℕ) (behind : List ℕ) → n ≤ length bytes - at → copied ≡ take n (drop at bytes) → drop at bytes ≡ take n (copied ++ behind) ++ drop (at + n) bytes
read_front bytes copied at n behind fits is =
    let count : length copied ≡ n = ap length is ∙ omega (arith, length-take n (drop at bytes), length-drop at bytes) in
    rw (take_at copied behind n count, is, ← drop-drop n at bytes) (sym (take-append-drop n (drop at bytes)))

pub at_end : (bytes : List ℕ) (at : ℕ) → length bytes ≤ at → drop at bytes ≡ []
at_end bytes at le = nil_from_length (drop at bytes) (omega (arith, length-drop at bytes))

-- ---- what was taken from the input

pub took_none : (most : ℕ) (a : Option (List ℕ)) → Took most a a
took_none most a = record { bytes = []; consumed = consumes_none a; short = omega arith }

pub took_read : (a b : Option (List ℕ)) (bytes : List ℕ) → HasRead a b bytes → Took (limit + 1) a b
took_read a b bytes h = record { bytes = bytes; consumed = h.consumed; short = h.short }

pub took_so_far : (a b : Option (List ℕ)) (bytes : List ℕ) → Consumes a b bytes → length bytes ≤ limit → Took limit a b
took_so_far a b bytes consumed short = record { bytes = bytes; consumed = consumed; short = short }

-- a byte more than was taken may have been
pub took_less : (a b : Option (List ℕ)) → Took limit a b → Took (limit + 1) a b
took_less a b h = record { bytes = h.bytes; consumed = h.consumed; short = omega (arith, h.short) }

consumes_kept : (a b c : Option (List ℕ)) (bytes : List ℕ) → Consumes a b bytes → Keeps b c → Consumes a c bytes
consumes_kept None b c bytes h k = tt
consumes_kept (Some xs) None c bytes h k = absurd h
consumes_kept (Some xs) (Some ys) None bytes h k = absurd k
consumes_kept (Some xs) (Some ys) (Some zs) bytes h k = h ∙ ap (λ (r : List ℕ). bytes ++ r) (sym k)

-- and a read that failed
pub took_kept : (a b c : Option (List ℕ)) (bytes : List ℕ) → Consumes a b bytes → Keeps b c → length bytes ≤ limit → Took limit a c
took_kept a b c bytes consumed kept short = record { bytes = bytes; consumed = consumes_kept a b c bytes consumed kept; short = short }

pub ruleset read_rules = (append_assoc, append-nil, took_so_far, took_kept)

pub ruleset write_rules = (append_assoc, append-nil, take_then)

pub ruleset run_rules = (append-nil, took_none, took_read, took_less)

pub ruleset text_rules = (append_assoc)
