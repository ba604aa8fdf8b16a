-- Sources and sinks in memory, as contracts see them.
use Rattle.std.specs.Prelude.{ℕ, List}

-- a source in memory
pub record MemoryLeft : Type 0 where
  -- the bytes still to come
  pub left : List ℕ
  -- the most bytes that one call gives
  pub piece : ℕ
  -- the numbers of the calls that fail, counted from 1
  pub fails : List ℕ
  -- how many calls there were
  pub calls : ℕ
  -- how many calls have failed
  pub faults : ℕ

-- a sink in memory
pub record MemoryHeld : Type 0 where
  -- the bytes taken so far
  pub held : List ℕ
  -- the numbers of the calls that fail, counted from 1
  pub fails : List ℕ
  -- how many calls there were
  pub calls : ℕ
  -- how many calls have failed
  pub faults : ℕ
