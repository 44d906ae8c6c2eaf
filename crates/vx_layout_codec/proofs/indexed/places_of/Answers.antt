use Rattle.vx_layout_codec.proofs.AnswerSteps.{distinct_of}
use Rattle.vx_layout_codec.proofs.PlaceSteps.{map_more}
use Rattle.vx_layout_codec.proofs.indexed.places_of.Goals as goal

pub loop-i-preserved : goal.loop-i-preserved
loop-i-preserved c =
    map_more c.args.ids.now c.loop-i.i c.index-ids-i.result c.loop-i-test.true c.index-ids-i.is (distinct_of c.args.ids.now c.requires)
    c.loop-i.places c.insert.new.self c.as_str.result c.as_str.ensures.text c.in_ok-insert.ensures.updates c.loop-i.invariant
