-- Laws of one P line, in the shape of the code.
-- Assumes nothing.
use mathlib.Core.Path.{◌≡◌, refl, sym, ap, ◌∙◌}
use mathlib.Core.Bool.{true, false}
use mathlib.Core.List.{List, []}
use Prim.Native.Nat.{ℕ, ◌+◌, ◌≤◌}
use lib.Dec.{lit<}
use lib.ListN.{replicate}
use Rattle.std.specs.Prelude.{Ok, Err}
use Rattle.refusal.specs.declared.Refusal.{Refusal}
use Rattle.refusal.specs.declared.Refusal.TheVariants.{WrongNode}
use Rattle.refusal.specs.Refusal.{number_of}
use Rattle.refusal.proofs.RefusalLaws.{number_some}
use Rattle.lines.specs.Inner.{DueRead}
use Rattle.lines.specs.Line.{line_of, at}
use Rattle.lines.specs.Places.{numbers_of, status_of}
use Rattle.jobfile.specs.File.{good_node, node_line, node_of}
use Rattle.jobhead.specs.Stored.{NodeStored}
use Rattle.jobhead.specs.ReadLines.{NodeRead}
use Rattle.lines.proofs.LinesLaws.{due_stops, due_tested, due_whole, due_long}
use Rattle.nodetest.proofs.NodeTestLaws.{node_fits}
use Rattle.buffer.specs.Layout.{node_place}
use Rattle.buffer.proofs.KeptLaws.{kept_none}

module _ (s a n : ℕ) (bytes l : List ℕ) where
  -- a refusal
  refused_as : (k : Refusal) → number_of k ≡ status_of (node_line s a) n [] (line_of 80 6 bytes) → NodeRead s a n bytes l l (Err k)
  refused_as k e = record {
    status = e;
    zero = λ z. refl;
    number = λ z. absurd (number_some k z);
    small = lit< tt;
    here = λ z. absurd (number_some k z);
    within = λ z. absurd (number_some k z);
    kept = kept_none l (node_place n) (node_place n + 8);
  }

  module _ {ns : List ℕ} {r : ℕ} (e : DueRead (line_of 80 6 bytes) 6 (replicate 6 0) ns r) where
    -- nothing, or no line
    pub node_stop : (k : Refusal) → r ≡ number_of k → NodeRead s a n bytes l l (Err k)
    node_stop k i = refused_as k (sym i ∙ due_stops (node_line s a) n [] bytes e (λ z. number_some k (sym i ∙ z)))

    module _ (z : r ≡ 0) where
      -- the line's numbers
      numbers_are : ns ≡ numbers_of (line_of 80 6 bytes)
      numbers_are = due_whole (node_line s a) n [] bytes e z refl

      -- numbers that do not pass
      pub node_fails : good_node s a n [] ns ≡ false → NodeRead s a n bytes l l (Err WrongNode)
      node_fails g = refused_as WrongNode (due_tested (node_line s a) n [] bytes e z false numbers_are g)

      -- numbers that pass, and the node that is stored
      pub node_passes
          : (m : List ℕ) → s ≤ 16 → a ≤ 16 → good_node s a n [] ns ≡ true → NodeStored l m n (node_of ns)
          → NodeRead s a n bytes l m (Ok (at ns 3))
      node_passes m hs ha g st = record {
        status = due_tested (node_line s a) n [] bytes e z true numbers_are g;
        zero = λ z. absurd (z refl);
        number = λ q. ap (λ (x : List ℕ). at x 3) numbers_are;
        small = (node_fits s a n ns hs ha g).entries;
        here = λ q. st.here ∙ ap node_of numbers_are;
        within = λ q. due_long (node_line s a) n [] bytes e z;
        kept = st.kept;
      }
