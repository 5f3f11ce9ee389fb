pub mod TextLemmas
pub mod SizeLemmas
pub mod FramingLemmas
pub mod CutLemmas
pub mod AwaitedLemmas
pub mod SaysLemmas
pub mod GrammarLemmas
pub mod PlainLemmas
