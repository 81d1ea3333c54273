-- What the parts of the text call promise.
use Rattle.std.specs.Prelude.{ℕ, ◌≤◌, ◌≡◌, List, length, take}
use Rattle.sifc_def.specs.declared.Summary.{Summary}
use Rattle.sifc_def.specs.Read.{Arrays, rooms_of, cleared_arrays, Found, found, ctx_of, summary, filled, Written, texted}
use Rattle.sifc_def.proofs.Canon.Calls.{Reads}
use Rattle.sifc_put.specs.Place.{Inp, inp}

-- so many tokens and nodes are there
pub record Holds (b : Arrays) (tokens nodes : ℕ) : Type 0 where
  pub offs : tokens ≤ length b.offs
  pub words : tokens ≤ length b.words
  pub heads : nodes ≤ length b.heads
  pub loads : nodes ≤ length b.loads

-- the script with those
abbrev pub cut_to : List ℕ → Arrays → ℕ → ℕ → Inp
cut_to s b tokens nodes = inp s (take tokens b.offs) (take tokens b.words) (take nodes b.heads) (take nodes b.loads)

-- A reading of s with the arrays a found f, answered m and left the arrays b, which are as long as they were.
pub record LeftBy (s : List ℕ) (b : Arrays) (m : Summary) (a : Arrays) (f : Found) : Type 0 where
  pub reads : Reads s a f
  pub answer : m ≡ summary (ctx_of (rooms_of a) s) f
  pub arrays : b ≡ filled (ctx_of (rooms_of a) s) f a
  pub cleared : cleared_arrays b ≡ cleared_arrays a

-- some reading did
pub record Left (s : List ℕ) (b : Arrays) (m : Summary) : Type 0 where
  pub lent : Arrays
  pub what : Found
  pub by : LeftBy s b m lent what

-- Whatever reading did, this is the text call's answer and what it leaves.
pub record Texts (s : List ℕ) (b : Arrays) (m : Summary) (t : List ℕ) (w : Written) : Type 0 where
  pub does : (a : Arrays) (f : Found) → LeftBy s b m a f → w ≡ texted s a t (found f)
