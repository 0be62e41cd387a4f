mod Alone
mod Certifying
mod ChainLemmas
mod Domains
mod LikeLemmas
mod LinkLemmas
mod ListVerdicts
pub mod OneChain
pub mod OneReason
mod Prefixes
pub mod Published
mod PublishedChains
mod PublishedLines
mod PublishedLists
mod PublishedRows
mod PublishedTables
