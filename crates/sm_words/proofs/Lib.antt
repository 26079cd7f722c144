mod GivenLemmas
mod LineLemmas
