-- What callers see of the sources and sinks.
use Rattle.std.specs.Prelude.{ℕ, List}

-- a sink in memory: the bytes written, how many more fit, and how often a write has failed
pub record Store : Type 0 where
  pub written : List ℕ
  pub room : ℕ
  pub faults : ℕ

-- a source that breaks: the bytes not yet read, how many it still gives before it fails, and how often a read has failed
pub record Breaking : Type 0 where
  pub left : List ℕ
  pub allowed : ℕ
  pub faults : ℕ

-- a source that counts its reads: the bytes not yet read, and how often it was read
pub record Counting : Type 0 where
  pub left : List ℕ
  pub reads : ℕ

-- a source or a sink over a stream: the reader or the writer as it stands, and how often a read or a write has failed
pub record Stream (S : Type 0) : Type 0 where
  pub stream : S
  pub faults : ℕ

-- a source of which one read fails: the bytes not yet read, the number of that read from 0 on, how often it was read, and how often a read has
-- failed
pub record FailsOnce : Type 0 where
  pub left : List ℕ
  pub at : ℕ
  pub reads : ℕ
  pub faults : ℕ

-- a sink in memory of which one write fails: what is stored, the number of that write from 0 on, and how often it was written to
pub record StoresButOnce : Type 0 where
  pub store : Store
  pub at : ℕ
  pub puts : ℕ
