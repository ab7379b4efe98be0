-- The numbers of a job that reading returns, as a ghost record: a refusal's number beside zeros, or 0 beside the job's numbers.
-- Inner contracts: what functions ask of and leave to each other. No promise is stated in them; a reader need not believe them.
-- Assumes nothing.
use Rattle.std.specs.Prelude.{Result, Ok, Err, ℕ}
use Rattle.jobhead.specs.declared.head.Head.{Head}
use Rattle.refusal.specs.declared.Refusal.{Refusal}
use Rattle.refusal.specs.Refusal.{number_of}

-- a refusal's number or 0, the numbers of states and symbols, the final states, the numbers of nodes and edges
pub record HeadNumbers : Type 0 where
  pub refusal : ℕ
  pub states : ℕ
  pub symbols : ℕ
  pub finals : ℕ
  pub nodes : ℕ
  pub edges : ℕ

-- "every number it returns beside its own number is zero"
abbrev pub refused_head : ℕ → HeadNumbers
refused_head k = record { refusal = k; states = 0; symbols = 0; finals = 0; nodes = 0; edges = 0 }

-- the numbers of a job
abbrev pub numbers_of_head : Head → HeadNumbers
numbers_of_head h = record {
  refusal = 0;
  states = h.states;
  symbols = h.symbols;
  finals = h.finals;
  nodes = h.nodes;
  edges = h.edges;
}

-- the numbers of what is returned
abbrev pub numbers_in : Result Head Refusal → HeadNumbers
numbers_in (Ok h) = numbers_of_head h
numbers_in (Err r) = refused_head (number_of r)
