pub mod Counted
pub mod BlankLemmas
pub mod TableLemmas
pub mod WindowLemmas
pub mod FirstLemmas
pub mod MirrorLemmas
pub mod VaultLemmas
