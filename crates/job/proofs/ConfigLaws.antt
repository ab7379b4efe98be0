-- The search of the configurations of two monitors: it finds the reached pairs and no others.
-- Why: its moves are the moves of walks, and on the configurations of a well-formed job its codes are below their count and told apart.
-- Assumes nothing.
use mathlib.Core.Path.{◌≡◌, refl, sym, ap, ◌∙◌}
use mathlib.Core.Logic.Iff
use mathlib.Core.Logic.{◌⊎◌, inl, inr, ⊎_elim, ◌↔◌}
use mathlib.Core.Bool.{Bool, true, false, cond, not, ◌&&◌, true≢false, false≢true, and-eq-true_iff}
use mathlib.Core.List.Memᴰ.{head as first}
use mathlib.Core.List.Memᴰ.{tail as later}
use mathlib.Core.List.{List, [], ◌∷◌, ◌++◌, map, Memᴰ as Member}
use mathlib.Core.List.Memᴰ.{cases_cons as member-cases}
use mathlib.Core.List.Memᴰ.{eq_of_singleton as member-one}
use mathlib.Core.List.Memᴰ.{not-nil as member-none}
use mathlib.Core.List.Memᴰ.{append_cases}
use mathlib.Core.List.Memᴰ.{append_left}
use mathlib.Core.List.Memᴰ.{append_right}
use mathlib.Core.List.Memᴰ.{map as map-member}
use mathlib.Core.List.Memᴰ.{of_map as map-from}
use Prim.Native.Nat.{ℕ, zero, suc, ◌+◌, ◌*◌, ◌/◌, ◌%◌, ◌<◌}
use native.Mathlib.Nat.{le_refl, le_step, le_of_suc-le-suc, not-suc-le-zero, eq-or-lt_of_le}
use native.Mathlib.Omega.{arith}
use lib.Dec.{eqb}
use lib.Arith.{digits_lt, digits_div, digits_mod}
use lib.ListN.{length}
use borrow.Author.Tests.{eq-eqb, eqb-true}
use Rattle.laws.specs.Bits.{has}
use Rattle.laws.proofs.Tests.{or_passes, or_left, or_right}
use Rattle.job.specs.Job.{Point, no_point, point, point_of, call_set, is_reentrant, Node, is_entry, Edge, Job, node_at, holds, WellFormedJob}
use Rattle.job.specs.Walk.{Event, word, Place, before, past, ended, Silent}
use Rattle.job.specs.Walk.{Told, after_word}
use Rattle.job.specs.Plan.{Enabling, alarm_at, ApartAt}
use Rattle.job.specs.Search.{any_of, numbers_of, Config, config_of, place_code, config_code, config_count, targets, entered, before_nodes, silent_moves}
use Rattle.job.specs.Search.{Telling, telling, words, reports, told_moves, told_config, after_config, unlike, splits, starts_below, configs}
use Rattle.job.proofs.KindLaws.{enters, takes_edge, begins_after, comes_in, comes_back, reports_point, reports_word, SilentBy, by_pass, by_edge, by_exit, by_entry, by_return, silent_by, ToldBy, by_point, by_words, by_after, told_by}
use Rattle.job.proofs.SearchLaws.{Reached, at_start, further, any_of_says, any_reached_says}
use Rattle.job.proofs.Pairs.{Pairs, Pair, begins, moves, tells, Admitted, admitted, Only, only, Kept, pair_least}
use Rattle.job.proofs.Pairs.{Splits, apart_now, pair_apart, apart_splits}
use Rattle.job.proofs.Bounds.{node_of, Within, entry_node, is_entry_node, reentrant_node, admitted_within, within_kept}

-- ---- lists

-- the members of a list to which one is added under a test
member_cond : {A : Type 0} (b : Bool) {x y : A} {l : List A} → Member x (cond b (y ∷ l) l) ↔ (((b ≡ true) × (x ≡ y)) ⊎ Member x l)
member_cond {A} b {x} {y} {l} = (there b, back b)
  where
    there : (b : Bool) → Member x (cond b (y ∷ l) l) → ((b ≡ true) × (x ≡ y)) ⊎ Member x l
    there true m = ⊎_elim (λ (e : x ≡ y). inl (refl, e)) (λ (t : Member x l). inr t) (member-cases m)
    there false m = inr m

    back : (b : Bool) → ((b ≡ true) × (x ≡ y)) ⊎ Member x l → Member x (cond b (y ∷ l) l)
    back true (inl e) = first e.1
    back true (inr m) = later m
    back false (inl e) = absurd (false≢true e.0)
    back false (inr m) = m

-- `numbers_of` lists the numbers below the bound that pass
pub numbers_say : (k : ℕ) (f : ℕ → Bool) (i : ℕ) → Member i (numbers_of k f) ↔ ((i < k) × (f i ≡ true))
unfolding numbers_of
numbers_say zero f i = (λ m. absurd (member-none m), λ h. absurd (not-suc-le-zero h.0))
numbers_say (suc k) f i =
    let below = numbers_say k f i in
    Iff.trans (member_cond (f k)) (
      ⊎_elim
          (λ (h : (f k ≡ true) × (i ≡ k)). (rw h.1 (le_refl (suc k)), rw h.1 h.0))
          (λ (m : Member i (numbers_of k f)). (le_step (below.0 m).0, (below.0 m).1)),
      λ h.
          ⊎_elim
          (λ (e : i ≡ k). inl (rw (← e) h.1, e))
          (λ (l : i < k). inr (below.1 (l, h.1)))
          (eq-or-lt_of_le (le_of_suc-le-suc h.0)),
    )

-- `targets` lists the nodes that an edge leads to
pub targets_say : (es : List Edge) (m n : ℕ) → Member n (targets es m) ↔ (holds es m n ≡ true)
unfolding targets holds
targets_say [] m n = (λ t. absurd (member-none t), λ h. absurd (false≢true h))
targets_say (e ∷ es) m n =
    let rest = targets_say es m n in
    Iff.trans (member_cond (eqb e.from m)) (
      ⊎_elim
          (λ (h : (eqb e.from m ≡ true) × (n ≡ e.to)).
          or_left (eqb e.from m && eqb e.to n) (holds es m n) ((and-eq-true_iff _ _).1 (h.0, eq-eqb e.to n (sym h.1))))
          (λ (t : Member n (targets es m)). or_right (eqb e.from m && eqb e.to n) (holds es m n) (rest.0 t)),
      λ h.
          ⊎_elim
          (λ (b : (eqb e.from m && eqb e.to n) ≡ true).
          let both = (and-eq-true_iff (eqb e.from m) (eqb e.to n)).0 b in inl (both.0, sym (eqb-true e.to n both.1)))
          (λ (r : holds es m n ≡ true). inr (rest.1 r))
          (or_passes (eqb e.from m && eqb e.to n) (holds es m n) h),
    )

-- ---- moves

-- a node that passes is in the list of places before nodes
those_listed
    : (b : Bool) (j : Job) (f : Node → Bool) (n : ℕ) → n < length j.nodes → b ≡ true → f (node_at j n) ≡ true
    → Member (before n) (before_nodes b j f)
those_listed true j f n l e h = map-member before ((numbers_say (length j.nodes) (λ n. f (node_at j n)) n).1 (l, h))
those_listed false j f n l e h = absurd (false≢true e)

-- a silent move is in the list
moves_listed : {j : Job} {x y : Place} → SilentBy j x y → Member y (silent_moves j x)
unfolding silent_moves
moves_listed (by_pass e) = rw e (first refl)
moves_listed {j} (by_edge {m = m} {n = n} h) =
    append_left (cond (node_at j m).exit (ended m ∷ []) [] ++ before_nodes (is_reentrant (node_at j m).kind) j is_entry)
    (map-member before ((targets_say j.edges m n).1 h))
moves_listed {j} (by_exit {n = n} h) =
    append_right (map before (targets j.edges n))
    (append_left (before_nodes (is_reentrant (node_at j n).kind) j is_entry) ((member_cond (node_at j n).exit).1 (inl (h, refl))))
moves_listed {j} (by_entry {m = m} {n = n} h e) =
    append_right (map before (targets j.edges m))
    (append_right (cond (node_at j m).exit (ended m ∷ []) [])
    (those_listed (is_reentrant (node_at j m).kind) j is_entry n (is_entry_node j n e) h e))
moves_listed {j} (by_return {m = m} {n = n} x h) =
    those_listed (node_at j m).exit j (λ k. is_reentrant k.kind) n (reentrant_node j n h) x h

-- whatever the kind of the node
silent_listed : {j : Job} {x y : Place} → Silent j x y → Member y (silent_moves j x)
silent_listed m = moves_listed (silent_by m)

-- what that list holds is one
those_from
    : {y : Place} (b : Bool) (j : Job) (f : Node → Bool) → Member y (before_nodes b j f)
    → (n : ℕ) × (b ≡ true) × (f (node_at j n) ≡ true) × (y ≡ before n)
those_from {y} true j f m =
    let nodes = numbers_of (length j.nodes) (λ n. f (node_at j n)) in
    let r = map-from before nodes m in
    (r.0, refl, ((numbers_say (length j.nodes) (λ n. f (node_at j n)) r.0).0 r.1).1, sym r.2)
those_from false j f m = absurd (member-none m)

-- what the list of silent moves holds is one
silent_from : (j : Job) (x y : Place) → Member y (silent_moves j x) → Silent j x y
unfolding silent_moves
silent_from j (before n) y m = go (point_of (node_at j n).kind) refl m
  where
    go : (x : Point) → point_of (node_at j n).kind ≡ x → Member y (entered n x) → Silent j (before n) y
    go no_point e t = rw (member-one t) (enters n e)
    go (point a) e t = absurd (member-none t)
silent_from j (past n) y m =
    ⊎_elim
    (λ (t : Member y (map before (targets j.edges n))).
    let r = map-from before (targets j.edges n) t in rw (← r.2) (takes_edge ((targets_say j.edges n r.0).0 r.1)))
    (λ (rest : Member y (cond (node_at j n).exit (ended n ∷ []) [] ++ before_nodes (is_reentrant (node_at j n).kind) j is_entry)).
    ⊎_elim
    (λ (t : Member y (cond (node_at j n).exit (ended n ∷ []) [])).
    ⊎_elim
    (λ (h : ((node_at j n).exit ≡ true) × (y ≡ ended n)). rw h.1 (begins_after h.0))
    (λ (none : Member y []). absurd (member-none none))
    ((member_cond (node_at j n).exit).0 t))
    (λ (t : Member y (before_nodes (is_reentrant (node_at j n).kind) j is_entry)).
    let r = those_from (is_reentrant (node_at j n).kind) j is_entry t in rw r.3 (comes_in r.1 r.2))
    (append_cases (cond (node_at j n).exit (ended n ∷ []) []) rest))
    (append_cases (map before (targets j.edges n)) m)
silent_from j (ended n) y m =
    let r = those_from (node_at j n).exit j (λ k. is_reentrant k.kind) m in rw r.3 (comes_back r.1 r.2)

-- `silent_moves` lists the silent moves
pub silent_says : (j : Job) (x y : Place) → Member y (silent_moves j x) ↔ Silent j x y
silent_says j x y = (silent_from j x y, silent_listed)

-- a symbol of the set is in its words
words_listed : (a set : ℕ) (x : Place) (s : ℕ) → s < a → has set s ≡ true → Member (telling (word s) x) (words a set x)
words_listed a set x s l h = map-member (λ s. telling (word s) x) ((numbers_say a (has set) s).1 (l, h))

-- a told move is in the list
tells_listed : {j : Job} {x y : Place} {e : Event} → WellFormedJob j → ToldBy j x e y → Member (telling e y) (told_moves j x)
unfolding told_moves
tells_listed wf (by_point k) = rw k (first refl)
tells_listed {j} wf (by_words {n = n} {a = a} h) =
    words_listed j.rule.symbols (call_set (node_at j n).kind) (past n) a ((wf.kinds n).words_below a h) h
tells_listed {j} wf (by_after {n = n} {a = a} x h) =
    rw x (words_listed j.rule.symbols (node_at j n).after (ended n) a (wf.afters n a h) h)

-- whatever the kind of the node
told_listed : {j : Job} {x y : Place} {e : Event} → WellFormedJob j → Told j x e y → Member (telling e y) (told_moves j x)
told_listed wf t = tells_listed wf (told_by t)

-- what the words of a set hold is a symbol of it
words_from : (a set : ℕ) (x : Place) (t : Telling) → Member t (words a set x) → (s : ℕ) × (has set s ≡ true) × (t ≡ telling (word s) x)
words_from a set x t m =
    let r = map-from (λ s. telling (word s) x) (numbers_of a (has set)) m in
    (r.0, ((numbers_say a (has set) r.0).0 r.1).1, sym r.2)

-- what the list of told moves holds is one
told_from : (j : Job) (x : Place) (t : Telling) → Member t (told_moves j x) → Told j x t.event t.to
unfolding told_moves
told_from j (before n) t m = go (point_of (node_at j n).kind) refl m
  where
    go : (x : Point) → point_of (node_at j n).kind ≡ x → Member t (reports n x) → Told j (before n) t.event t.to
    go no_point e m = absurd (member-none m)
    go (point a) e m = rw (member-one m) (reports_point e)
told_from j (past n) t m =
    let r = words_from j.rule.symbols (call_set (node_at j n).kind) (past n) t m in rw r.2 (reports_word n r.0 r.1)
told_from j (ended n) t m = go (node_at j n).exit refl m
  where
    go
        : (b : Bool) → (node_at j n).exit ≡ b → Member t (cond b (words j.rule.symbols (node_at j n).after (ended n)) [])
        → Told j (ended n) t.event t.to
    go true e m = let r = words_from j.rule.symbols (node_at j n).after (ended n) t m in rw r.2 (after_word e r.1)
    go false e m = absurd (member-none m)

-- `told_moves` lists the told moves
pub told_says
    : {j : Job} → WellFormedJob j → (x : Place) (t : Telling) → Member t (told_moves j x) ↔ Told j x t.event t.to
told_says {j} wf x t = (told_from j x t, told_listed wf)

-- `unlike` says that two tests are contrary
unlike_says : (a b : Bool) → (unlike a b ≡ true) ↔ (a ≡ not b)
unlike_says true true = (λ e. absurd (false≢true e), λ e. absurd (true≢false e))
unlike_says true false = (λ e. refl, λ e. refl)
unlike_says false true = (λ e. refl, λ e. refl)
unlike_says false false = (λ e. absurd (false≢true e), λ e. absurd (false≢true e))

-- `splits` says `Splits`
pub splits_says
    : {j : Job} → WellFormedJob j → (v w : Enabling) (x : Place) (p q : ℕ) → (splits j v w (config_of x p q) ≡ true) ↔ Splits j v w x p q
unfolding splits
splits_says {j} wf v w x p q = (
  λ h.
      let r = (any_of_says differ (told_moves j x)).0 h in
      let t = r.0 in
      record {
        event = t.event;
        to = t.to;
        told = told_from j x t r.1;
        differ = (unlike_says (alarm_at j.rule v p t.event) (alarm_at j.rule w q t.event)).0 r.2;
      },
  λ s.
      (any_of_says differ (told_moves j x)).1 (
        telling s.event s.to,
        told_listed wf s.told,
        (unlike_says (alarm_at j.rule v p s.event) (alarm_at j.rule w q s.event)).1 s.differ,
      ),
)
  where
    differ : Telling → Bool
    differ t = unlike (alarm_at j.rule v p t.event) (alarm_at j.rule w q t.event)

-- ---- codes

-- two digits below the base tell the number
digits_same : (s a b c d : ℕ) → b < s → d < s → a * s + b ≡ c * s + d → (a ≡ c) × (b ≡ d)
digits_same s a b c d k l e =
    (sym (digits_div a k) ∙ ap (λ (n : ℕ). n / s) e ∙ digits_div c l, sym (digits_mod a k) ∙ ap (λ (n : ℕ). n % s) e ∙ digits_mod c l)

-- the code of a place of the job is below three for each node
place_below : (n : ℕ) (x : Place) → node_of x < n → place_code x < n * 3
place_below n (before m) l = omega arith
place_below n (past m) l = omega arith
place_below n (ended m) l = omega arith

-- places with one code are one
place_same : (x y : Place) → place_code x ≡ place_code y → x ≡ y
place_same (before m) (before n) e = ap before (omega arith)
place_same (before m) (past n) e = absurd (omega arith)
place_same (before m) (ended n) e = absurd (omega arith)
place_same (past m) (before n) e = absurd (omega arith)
place_same (past m) (past n) e = ap past (omega arith)
place_same (past m) (ended n) e = absurd (omega arith)
place_same (ended m) (before n) e = absurd (omega arith)
place_same (ended m) (past n) e = absurd (omega arith)
place_same (ended m) (ended n) e = ap ended (omega arith)

-- the code of a configuration of the job is below their count
code_below : {j : Job} (c : Config) → Within j c.place c.one c.other → config_code j c < config_count j
code_below {j} c r = digits_lt (digits_lt (place_below (length j.nodes) c.place r.node) r.one) r.other

-- configurations of the job with one code are one
code_same
    : {j : Job} (c d : Config) → Within j c.place c.one c.other → Within j d.place d.one d.other
    → config_code j c ≡ config_code j d → c ≡ d
code_same {j} c d r s e =
    let low = digits_same j.rule.states _ c.other _ d.other r.other s.other e in
    let high = digits_same j.rule.states (place_code c.place) c.one (place_code d.place) d.one r.one s.one low.0 in
    let at = place_same c.place d.place high.0 in
    λ i. record { place = at i; one = high.1 i; other = low.1 i }

-- ---- the search

-- a list of configurations holds the starts, which are of the job, and no others
pub record Lists (j : Job) (l : List Config) (S : Pairs) : Type 0 where
  pub sound : (c : Config) → Member c l → S c.place c.one c.other
  pub complete : (x : Place) (p q : ℕ) → S x p q → Member (config_of x p q) l
  pub within : (x : Place) (p q : ℕ) → S x p q → Within j x p q

-- what follows a reached pair in the search is one
after_pair
    : {j : Job} {v w : Enabling} {S : Pairs} (c d : Config) → Pair j v w S c.place c.one c.other
    → Member d (after_config j v w c) → Pair j v w S d.place d.one d.other
unfolding after_config
after_pair {j} {v} {w} c d r m =
    let still : Place → Config = λ y. config_of y c.one c.other in
    ⊎_elim
    (λ (t : Member d (map still (silent_moves j c.place))).
    let s = map-from still (silent_moves j c.place) t in rw (← s.2) (moves r (silent_from j c.place s.0 s.1)))
    (λ (t : Member d (map (told_config j v w c) (told_moves j c.place))).
    let s = map-from (told_config j v w c) (told_moves j c.place) t in rw (← s.2) (tells r (told_from j c.place s.0 s.1)))
    (append_cases (map still (silent_moves j c.place)) m)

module _ {j : Job} (wf : WellFormedJob j) (v w : Enabling) {S : Pairs} (starts : List Config) (l : Lists j starts S) where
  -- a configuration that the search reaches is a reached pair
  reached_pair : {c : Config} → Reached (after_config j v w) starts c → Pair j v w S c.place c.one c.other
  reached_pair {c} (at_start m) = begins (l.sound c m)
  reached_pair {c} (further {x = b} r m) = after_pair b c (reached_pair r) m

  -- the configurations that the search reaches are kept
  reached_kept : Kept j v w S (λ x p q. Reached (after_config j v w) starts (config_of x p q))
  unfolding after_config
  reached_kept =
      record {
        starts = λ x p q s. at_start (l.complete x p q s);
        moved = λ x y p q r m.
            further r (append_left (map (told_config j v w (config_of x p q)) (told_moves j x)) (map-member (λ z. config_of z p q) (silent_listed m)));
        told = λ x y e p q r t.
            further r
            (append_right (map (λ z. config_of z p q) (silent_moves j x)) (map-member (told_config j v w (config_of x p q)) (told_listed wf t)));
      }

  -- the search reaches the reached pairs, and no others
  pub reached_configs_say : (x : Place) (p q : ℕ) → Reached (after_config j v w) starts (config_of x p q) ↔ Pair j v w S x p q
  reached_configs_say x p q = (reached_pair, pair_least reached_kept)

  -- they are of the job
  reached_within : {c : Config} → Reached (after_config j v w) starts c → Within j c.place c.one c.other
  reached_within r = pair_least (within_kept wf l.within) (reached_pair r)

  -- a test passes on the search where a reached pair passes it
  pub configs_say
      : (f : Config → Bool)
      → (any_of f (configs j v w starts) ≡ true) ↔ ((x : Place) × (p : ℕ) × (q : ℕ) × Pair j v w S x p q × (f (config_of x p q) ≡ true))
  configs_say f =
      Iff.trans
      (any_reached_says (config_count j) (config_code j) (after_config j v w) starts (λ c r. code_below c (reached_within r))
      (λ c d r s. code_same c d (reached_within r) (reached_within s)) f) (
        λ r. (r.0.place, r.0.one, r.0.other, reached_pair r.1, r.2),
        λ r. (config_of r.0 r.1 r.2, pair_least reached_kept r.3, r.4),
      )

  -- the search finds a configuration that splits where some start is told apart
  pub search_finds
      : (any_of (splits j v w) (configs j v w starts) ≡ true) ↔ ((x : Place) × (p : ℕ) × (q : ℕ) × S x p q × ApartAt j v w x p q)
  search_finds = (
    λ h.
        let r = (configs_say (splits j v w)).0 h in
        pair_apart r.3 (apart_now ((splits_says wf v w r.0 r.1 r.2).0 r.4)),
    λ a.
        let r = apart_splits (begins a.3) a.4 in
        (configs_say (splits j v w)).1 (r.0, r.1, r.2, r.3, (splits_says wf v w r.0 r.1 r.2).1 r.4),
  )

-- ---- starts

-- what the list of starts holds is one
starts_from : (j : Job) (k : ℕ) (c : Config) → Member c (starts_below j k) → Admitted j c.place c.one c.other
unfolding starts_below
starts_from j zero c m = absurd (member-none m)
starts_from j (suc n) c m =
    let states = numbers_of j.rule.states (has (node_at j n).entry) in
    ⊎_elim
    (λ (t : Member c (map (λ q. config_of (before n) q q) states)).
    let r = map-from (λ q. config_of (before n) q q) states t in
    rw (← r.2) (admitted ((numbers_say j.rule.states (has (node_at j n).entry) r.0).0 r.1).1))
    (starts_from j n c)
    (append_cases (map (λ q. config_of (before n) q q) states) m)

-- an admitted start at one of the first k nodes is in the list
starts_listed
    : {j : Job} → WellFormedJob j → (k n q : ℕ) → n < k → has (node_at j n).entry q ≡ true → Member (config_of (before n) q q) (starts_below j k)
unfolding starts_below
starts_listed wf zero n q l h = absurd (not-suc-le-zero l)
starts_listed {j} wf (suc k) n q l h =
    ⊎_elim
    (λ (e : n ≡ k).
    rw e
    (append_left (starts_below j k)
    (map-member (λ q. config_of (before k) q q) ((numbers_say j.rule.states (has (node_at j k).entry) q).1 (wf.entries n q h, rw e at h)))))
    (λ (m : n < k).
    append_right (map (λ q. config_of (before k) q q) (numbers_of j.rule.states (has (node_at j k).entry))) (starts_listed wf k n q m h))
    (eq-or-lt_of_le (le_of_suc-le-suc l))

-- `starts_below` lists the starts of the job
pub admitted_listed : {j : Job} → WellFormedJob j → Lists j (starts_below j (length j.nodes)) (Admitted j)
admitted_listed {j} wf =
    record { sound = starts_from j (length j.nodes); complete = λ x p q s. listed s; within = λ x p q s. admitted_within wf s }
  where
    listed : {x : Place} {p q : ℕ} → Admitted j x p q → Member (config_of x p q) (starts_below j (length j.nodes))
    listed (admitted {n = n} {q = q} h) = starts_listed wf (length j.nodes) n q (entry_node j n q h) h

-- one pair of the job is listed alone
pub only_listed : {j : Job} {x : Place} {p q : ℕ} → Within j x p q → Lists j (config_of x p q ∷ []) (Only x p q)
only_listed {j} {x} {p} {q} r =
    record { sound = λ c m. rw (member-one m) only; complete = λ y k l o. listed o; within = λ y k l o. inside o }
  where
    listed : {y : Place} {k l : ℕ} → Only x p q y k l → Member (config_of y k l) (config_of x p q ∷ [])
    listed only = first refl

    inside : {y : Place} {k l : ℕ} → Only x p q y k l → Within j y k l
    inside only = r
