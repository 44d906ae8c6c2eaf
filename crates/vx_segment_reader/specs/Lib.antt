pub use Rattle.vx_segment_spec.specs.Reading
pub use Rattle.vx_segment_spec.specs.Segment
pub use Rattle.vx_segment_spec.specs.Codec
pub mod TypeDepth
pub mod Views
