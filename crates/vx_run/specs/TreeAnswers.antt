-- What the command `tree` prints, and its status.
use Rattle.std.specs.Prelude.{ℕ, ◌++◌, true, List, [], codes, Result, Ok, Err}
use Rattle.vx_session.specs.Encodings.{with_kinds}
use Rattle.vx_session.specs.Ids.{aggregate_ids}
use Rattle.vx_session.specs.Scope.{Scope}
use Rattle.vx_session.specs.Made.{Made}
use Rattle.vx_layout_tree.specs.ErrorNames as layout_errors
use Rattle.vx_layout_codec_spec.specs.Parsed.{parsed}
use Rattle.vx_display.specs.Text.{display_text}
use Rattle.vx_job.specs.declared.error.Key.{Key}
use Rattle.vx_job.specs.TreeText.{TreeData}
use Rattle.vx_run.specs.declared.status.Status.{Status}
use Rattle.vx_run.specs.declared.status.Status.TheVariants.{Done, BadJob, Refused}
use Rattle.vx_run.specs.Answers.{IsText, bad_job}

-- what the bytes are built in: the job's ids, kinds and encodings, and all aggregates
abbrev pub tree_scope : TreeData → Scope
tree_scope j = record {
  ids = j.layouts;
  registered = with_kinds j.options.registered [];
  context = record { encodings = j.options.encodings; aggregates = aggregate_ids; allow_unknown = j.options.allow_unknown };
  allow_unknown = j.options.allow_unknown;
}

-- the layout that the bytes are at the type and within the limits, or why they are none
abbrev pub job_layout : TreeData → Made
job_layout j = parsed (tree_scope j) j.dtype j.options.depth j.options.nodes j.bytes

abbrev pub refused_line : List ℕ → List ℕ
refused_line name = codes "refused " ++ (name ++ codes "\n")

-- the verbose tree, or the name of the refusal
abbrev pub made_text : Made → List ℕ
made_text (Ok l) = display_text true l
made_text (Err refusal) = refused_line (layout_errors.refusal_name refusal)

abbrev pub made_status : Made → Status
made_status (Ok l) = Done
made_status (Err refusal) = Refused

abbrev pub IsShown : Made → Status → List ℕ → Type 0
IsShown made status text = IsText (made_status made) (made_text made) status text

-- the one text and its status, by what the input asks for or its first key at fault
abbrev pub IsTreeAnswer : Result TreeData Key → Status → List ℕ → Type 0
IsTreeAnswer (Err key) status text = IsText BadJob (bad_job key) status text
IsTreeAnswer (Ok j) status text = IsShown (job_layout j) status text

-- the status alone
abbrev pub tree_status : Result TreeData Key → Status
tree_status (Err key) = BadJob
tree_status (Ok j) = made_status (job_layout j)
