-- The positions that the last event can stand for are those that a chain over the events reaches, and so each event is one step.
-- Why: from every position of an expression a chain goes on to a last position, so every chain from a first position is the beginning of a word.
-- Assumes nothing.
use mathlib.Core.Path.{◌≡◌, refl, sym, ap, subst, ◌∙◌}
use mathlib.Core.Logic.{◌↔◌}
use Prim.Native.Nat.{ℕ}
use native.Mathlib.Omega.{arith}
use mathlib.Core.List.{List, [], ◌∷◌, ◌++◌, map, append_assoc, map-append}
use Rattle.expression.specs.Expression.{Expr, letter, following, either, star, Word, one, joined, left, right, none, more}
use Rattle.expression.specs.Masks.{In, is, of_front, of_back, of_left, of_right, of_star}
use Rattle.expression.specs.Positions.{position, symbol_at, Accepts, StandsFor}
use Rattle.expression.proofs.Chains.{First, first_here, first_front, first_back, first_left, first_right, first_star}
use Rattle.expression.proofs.Chains.{Last, last_here, last_back, last_left, last_right, last_star}
use Rattle.expression.proofs.Chains.{Follow, in_front, in_back, across, in_left, in_right, inside, anew}
use Rattle.expression.proofs.Chains.{Chain, here, step, chain_map, chain_append, Passes, empty, through, word_passes}
use Rattle.expression.proofs.Linear.{Spread, chain_word}

-- ---- lists

-- what ends in one is no empty list
pub snoc_not_nil : (u : List ℕ) (x : ℕ) → u ++ (x ∷ []) ≡ [] → ⊥
snoc_not_nil [] x e = let z : ◌≡◌ {A = ℕ} 0 1 = cc in omega arith
snoc_not_nil (y ∷ u) x e = let z : ◌≡◌ {A = ℕ} 0 1 = cc in omega arith

-- what ends in one ends in it alone
snoc_inj : (u v : List ℕ) (x y : ℕ) → u ++ (x ∷ []) ≡ v ++ (y ∷ []) → (u ≡ v) × (x ≡ y)
snoc_inj [] [] x y e = (refl, cc)
snoc_inj [] (b ∷ v) x y e = absurd (snoc_not_nil v y (cc))
snoc_inj (a ∷ u) [] x y e = absurd (snoc_not_nil u x (cc))
snoc_inj (a ∷ u) (b ∷ v) x y e = let r = snoc_inj u v x y (cc) in (cc r.0, r.1)

-- ---- names of letters

-- a word of positions is a word under any names
pub word_name : {name : ℕ → ℕ} {e : Expr} {u : List ℕ} → Word position e u → Word name e (map name u)
word_name one = one
word_name {name} (joined {u = u} {v = v} w x) = rw (map-append name u v) (joined (word_name w) (word_name x))
word_name (left w) = left (word_name w)
word_name (right w) = right (word_name w)
word_name none = none
word_name {name} (more {u = u} {v = v} w x) = rw (map-append name u v) (more (word_name w) (word_name x))

-- a word under names, and the positions of its letters
pub record Placed (name : ℕ → ℕ) (e : Expr) (w : List ℕ) : Type 0 where
  pub places : List ℕ
  pub word : Word position e places
  pub names : map name places ≡ w

placed_join
    : {name : ℕ → ℕ} (d e f : Expr) {u v : List ℕ} → ((x y : List ℕ) → Word position d x → Word position e y → Word position f (x ++ y))
    → Placed name d u → Placed name e v → Placed name f (u ++ v)
placed_join {name} d e f {u} {v} j a b =
    record {
      places = a.places ++ b.places;
      word = j a.places b.places a.word b.word;
      names = map-append name a.places b.places ∙ cc (a.names, b.names);
    }

placed_map : {name : ℕ → ℕ} {d e : Expr} {u : List ℕ} → ((x : List ℕ) → Word position d x → Word position e x) → Placed name d u → Placed name e u
placed_map f a = record { places = a.places; word = f a.places a.word; names = a.names }

pub word_placed : {name : ℕ → ℕ} {e : Expr} {w : List ℕ} → Word name e w → Placed name e w
word_placed (one {p = p}) = record { places = p ∷ []; word = one; names = refl }
word_placed (joined {d = d} {e = e} w x) = placed_join d e (following d e) (λ _ _. joined) (word_placed w) (word_placed x)
word_placed (left w) = placed_map (λ _. left) (word_placed w)
word_placed (right w) = placed_map (λ _. right) (word_placed w)
word_placed none = record { places = []; word = none; names = refl }
word_placed (more {e = e} w x) = placed_join e (star e) (star e) (λ _ _. more) (word_placed w) (word_placed x)

-- ---- every chain goes on

pub first_in : {e : Expr} {p : ℕ} → First e p → In e p
first_in first_here = is
first_in (first_front f) = of_front (first_in f)
first_in (first_back n f) = of_back (first_in f)
first_in (first_left f) = of_left (first_in f)
first_in (first_right f) = of_right (first_in f)
first_in (first_star f) = of_star (first_in f)

pub follow_in : {e : Expr} {p q : ℕ} → Follow e p q → In e q
follow_in (in_front f) = of_front (follow_in f)
follow_in (in_back f) = of_back (follow_in f)
follow_in (across l f) = of_back (first_in f)
follow_in (in_left f) = of_left (follow_in f)
follow_in (in_right f) = of_right (follow_in f)
follow_in (inside f) = of_star (follow_in f)
follow_in (anew l f) = of_star (first_in f)

pub chain_in : {e : Expr} {p q : ℕ} {u : List ℕ} → In e p → Chain (Follow e) p u q → In e q
chain_in h here = h
chain_in h (step f c) = chain_in (follow_in f) c

some_first : (e : Expr) → (p : ℕ) × First e p
some_first (letter p) = (p, first_here)
some_first (following d e) = let r = some_first d in (r.0, first_front r.1)
some_first (either d e) = let r = some_first d in (r.0, first_left r.1)
some_first (star e) = let r = some_first e in (r.0, first_star r.1)

-- a chain from a position to a last one
record Onward (e : Expr) (p : ℕ) : Type 0 where
  path : List ℕ
  stop : ℕ
  chain : Chain (Follow e) p path stop
  ends : Last e stop

onward_map
    : (d e : Expr) (p : ℕ) → ((x y : ℕ) → Follow d x y → Follow e x y) → ((x : ℕ) → Last d x → Last e x) → Onward d p → Onward e p
onward_map d e p f l a = record { path = a.path; stop = a.stop; chain = chain_map f a.chain; ends = l a.stop a.ends }

onward_across : (d e : Expr) (p q : ℕ) → Onward d p → First e q → Onward e q → Onward (following d e) p
onward_across d e p q a f b =
    record {
      path = a.path ++ (q ∷ b.path);
      stop = b.stop;
      chain = chain_append (chain_map (λ x y. in_front) a.chain) (across a.ends f) (chain_map (λ x y. in_back) b.chain);
      ends = last_back b.ends;
    }

onward : (e : Expr) (p : ℕ) → In e p → Onward e p
onward (letter q) p is = record { path = []; stop = p; chain = here; ends = last_here }
onward (following d e) p (of_front i) =
    onward_across d e p (some_first e).0 (onward d p i) (some_first e).1 (onward e (some_first e).0 (first_in (some_first e).1))
onward (following d e) p (of_back i) = onward_map e (following d e) p (λ x y. in_back) (λ x. last_back) (onward e p i)
onward (either d e) p (of_left i) = onward_map d (either d e) p (λ x y. in_left) (λ x. last_left) (onward d p i)
onward (either d e) p (of_right i) = onward_map e (either d e) p (λ x y. in_right) (λ x. last_right) (onward e p i)
onward (star e) p (of_star i) = onward_map e (star e) p (λ x y. inside) (λ x. last_star) (onward e p i)

-- ---- the positions after a list of events

-- a chain over the events w from a first position reaches p
pub record Reaches (t : List ℕ) (e : Expr) (w : List ℕ) (p : ℕ) : Type 0 where
  pub start : ℕ
  pub path : List ℕ
  pub begins : First e start
  pub chain : Chain (Follow e) start path p
  pub events : map (symbol_at t) (start ∷ path) ≡ w

-- a chain up to a position on it
chain_up_to : {F : ℕ → ℕ → Type 0} (x : ℕ) (u : List ℕ) (p : ℕ) (v : List ℕ) (q : ℕ) → Chain F x (u ++ (p ∷ v)) q → Chain F x (u ++ (p ∷ [])) p
chain_up_to x [] p v q (step f c) = step f here
chain_up_to x (y ∷ u) p v q (step f c) = step f (chain_up_to y u p v q c)

-- one chain after another
chain_join : {F : ℕ → ℕ → Type 0} {p q r : ℕ} {u v : List ℕ} → Chain F p u q → Chain F q v r → Chain F p (u ++ v) r
chain_join here d = d
chain_join (step f c) d = step f (chain_join c d)

-- the positions of a chain end in its last position
record Ended (x : ℕ) (u : List ℕ) (p : ℕ) : Type 0 where
  before : List ℕ
  all : x ∷ u ≡ before ++ (p ∷ [])

chain_ended : {F : ℕ → ℕ → Type 0} {x p : ℕ} {u : List ℕ} → Chain F x u p → Ended x u p
chain_ended here = record { before = []; all = refl }
chain_ended (step {p = x} f c) =
    let r = chain_ended c in record { before = x ∷ r.before; all = ap (λ (l : List ℕ). x ∷ l) r.all }

passes_reach
    : (t : List ℕ) (e : Expr) (u : List ℕ) (p : ℕ) (v : List ℕ) → Passes e (u ++ (p ∷ v)) → Reaches t e (map (symbol_at t) (u ++ (p ∷ []))) p
passes_reach t e [] p v (through f c l) = record { start = p; path = []; begins = f; chain = here; events = refl }
passes_reach t e (x ∷ u) p v (through {q = q} f c l) =
    record { start = x; path = u ++ (p ∷ []); begins = f; chain = chain_up_to x u p v q c; events = refl }

-- a position that the last event can stand for is reached
stands_reaches : (t : List ℕ) (e : Expr) (w : List ℕ) (p : ℕ) → StandsFor t e w p → Reaches t e w p
stands_reaches t e w p s =
    subst (λ (l : List ℕ). Reaches t e l p) s.events (passes_reach t e s.before p s.after (word_passes s.word))

-- and one that is reached is such a position
reaches_stands : (t : List ℕ) (i j : ℕ) (e : Expr) (w : List ℕ) (p : ℕ) → Spread i j e → Reaches t e w p → StandsFor t e w p
reaches_stands t i j e w p h r =
    let o = onward e p (chain_in (first_in r.begins) r.chain) in
    let b = chain_ended r.chain in
    let whole : (r.start ∷ r.path) ++ o.path ≡ b.before ++ (p ∷ o.path) =
    ap (λ (l : List ℕ). l ++ o.path) b.all ∙ append_assoc b.before (p ∷ []) o.path in
    record {
      before = b.before;
      after = o.path;
      word = subst (λ (l : List ℕ). Word position e l) whole (chain_word h r.begins (chain_join r.chain o.chain) o.ends);
      events = ap (λ (l : List ℕ). map (symbol_at t) l) (sym b.all) ∙ r.events;
    }

pub stands_says : (t : List ℕ) (i j : ℕ) (e : Expr) (w : List ℕ) (p : ℕ) → Spread i j e → StandsFor t e w p ↔ Reaches t e w p
stands_says t i j e w p h = (stands_reaches t e w p, reaches_stands t i j e w p h)

-- ---- one event

-- after one event: the first positions with its symbol
pub reaches_one : (t : List ℕ) (e : Expr) (s p : ℕ) → Reaches t e (s ∷ []) p ↔ (First e p × (symbol_at t p ≡ s))
reaches_one t e s p = (there, λ h. record { start = p; path = []; begins = h.0; chain = here; events = cc h.1 })
  where
    go : (x : ℕ) (u : List ℕ) → First e x → Chain (Follow e) x u p → map (symbol_at t) (x ∷ u) ≡ s ∷ [] → First e p × (symbol_at t p ≡ s)
    go x u f here q = (f, cc)
    go x u f (step g c) q = absurd (let z : ◌≡◌ {A = ℕ} 0 1 = cc in omega arith)

    there : Reaches t e (s ∷ []) p → First e p × (symbol_at t p ≡ s)
    there r = go r.start r.path r.begins r.chain r.events

-- after one event more: what follows a position reached before, with its symbol
pub record Further (t : List ℕ) (e : Expr) (w : List ℕ) (s q : ℕ) : Type 0 where
  pub from : ℕ
  pub reached : Reaches t e w from
  pub follows : Follow e from q
  pub symbol : symbol_at t q ≡ s

-- the last step of a chain
record LastStep (F : ℕ → ℕ → Type 0) (x : ℕ) (u : List ℕ) (q : ℕ) : Type 0 where
  path : List ℕ
  from : ℕ
  chain : Chain F x path from
  over : F from q
  whole : u ≡ path ++ (q ∷ [])

last_step : {F : ℕ → ℕ → Type 0} {x y q : ℕ} {u : List ℕ} → F x y → Chain F y u q → LastStep F x (y ∷ u) q
last_step {x = x} f here = record { path = []; from = x; chain = here; over = f; whole = refl }
last_step {y = y} f (step g c) =
    let r = last_step g c in
    record { path = y ∷ r.path; from = r.from; chain = step f r.chain; over = r.over; whole = ap (λ (l : List ℕ). y ∷ l) r.whole }

pub reaches_more : (t : List ℕ) (e : Expr) (x : ℕ) (w : List ℕ) (s q : ℕ) → Reaches t e ((x ∷ w) ++ (s ∷ [])) q ↔ Further t e (x ∷ w) s q
reaches_more t e x w s q = (there, back)
  where
    short : (y : ℕ) → map (symbol_at t) (y ∷ []) ≡ (x ∷ w) ++ (s ∷ []) → ⊥
    short y e' = snoc_not_nil w s (cc)

    go
        : (y : ℕ) (u : List ℕ) → First e y → Chain (Follow e) y u q → map (symbol_at t) (y ∷ u) ≡ (x ∷ w) ++ (s ∷ [])
        → Further t e (x ∷ w) s q
    go y u f here k = absurd (short y k)
    go y u f (step g c) k =
        let r = last_step g c in
        let m : map (symbol_at t) (y ∷ r.path) ++ (symbol_at t q ∷ []) ≡ (x ∷ w) ++ (s ∷ []) =
        sym (map-append (symbol_at t) (y ∷ r.path) (q ∷ [])) ∙ ap (λ (l : List ℕ). map (symbol_at t) (y ∷ l)) (sym r.whole) ∙ k in
        let n = snoc_inj (map (symbol_at t) (y ∷ r.path)) (x ∷ w) (symbol_at t q) s m in
        record {
          from = r.from;
          reached = record { start = y; path = r.path; begins = f; chain = r.chain; events = n.0 };
          follows = r.over;
          symbol = n.1;
        }

    there : Reaches t e ((x ∷ w) ++ (s ∷ [])) q → Further t e (x ∷ w) s q
    there r = go r.start r.path r.begins r.chain r.events

    back : Further t e (x ∷ w) s q → Reaches t e ((x ∷ w) ++ (s ∷ [])) q
    back h =
        record {
          start = h.reached.start;
          path = h.reached.path ++ (q ∷ []);
          begins = h.reached.begins;
          chain = chain_append h.reached.chain h.follows here;
          events = map-append (symbol_at t) (h.reached.start ∷ h.reached.path) (q ∷ []) ∙ cc (h.reached.events, h.symbol);
        }

-- ---- words of events

-- a list of events is a word where its last event can stand for a last position
pub accepts_says
    : (t : List ℕ) (i j : ℕ) (e : Expr) (x : ℕ) (w : List ℕ) → Spread i j e
    → Accepts t e (x ∷ w) ↔ ((p : ℕ) × Reaches t e (x ∷ w) p × Last e p)
accepts_says t i j e x w h = (λ a. there (word_placed a), back)
  where
    go : (u : List ℕ) → Passes e u → map (symbol_at t) u ≡ x ∷ w → (p : ℕ) × Reaches t e (x ∷ w) p × Last e p
    go u (empty n) k = absurd (let z : ◌≡◌ {A = ℕ} 0 1 = cc in omega arith)
    go u (through {p = p} {q = q} {u = v} f c l) k = (q, record { start = p; path = v; begins = f; chain = c; events = k }, l)

    there : Placed (symbol_at t) e (x ∷ w) → (p : ℕ) × Reaches t e (x ∷ w) p × Last e p
    there a = go a.places (word_passes a.word) a.names

    back : (p : ℕ) × Reaches t e (x ∷ w) p × Last e p → Accepts t e (x ∷ w)
    back r =
        subst (λ (l : List ℕ). Word (symbol_at t) e l) r.1.events (word_name (chain_word h r.1.begins r.1.chain r.2))
