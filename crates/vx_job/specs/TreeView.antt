-- What is asked of the command `tree`, as contracts see it.
use Rattle.vx_model.specs.TyView.{ty}
use Rattle.vx_job.specs.TreeText.{TreeData, TreeOptions}
use Rattle.vx_job.specs.declared.tree_options.TreeOptions as declared_options
use Rattle.vx_job.specs.declared.tree.TreeJob.{TreeJob}

abbrev pub tree_options_view : declared_options.TreeOptions → TreeOptions
tree_options_view o = record { encodings = o.encodings; registered = o.registered.items; allow_unknown = o.allow_unknown; depth = o.limits.depth; nodes = o.limits.nodes }

abbrev pub tree_view : TreeJob → TreeData
tree_view j = record { dtype = ty j.dtype; bytes = j.bytes.items; layouts = j.layouts; options = tree_options_view j.options }
