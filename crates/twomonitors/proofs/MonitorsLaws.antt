-- Two monitors on one walk, in any form of the event step that moves as it must (`FormMoves`). On a walk of a well-formed job every event's
-- call is taken, since symbols are below A and states stay below S; it moves, alarms and counts as `state_at` and `alarm_at` say, and a refused
-- call leaves its record. So the reports on the two records are `alarms` under `full` and under the plan, by one induction over the list for
-- each half: the first half is `Faithful`, what breaks it is `Different`.
-- Assumes nothing.
use mathlib.Core.Path.{◌≡◌, refl, sym, ap, ap₂, ◌∙◌, subst}
use mathlib.Core.Logic.{inl, inr, ◌↔◌}
use mathlib.Core.Bool.{Bool, true, false, cond, not, ◌&&◌}
use mathlib.Core.List.{List, [], ◌∷◌, ◌++◌, head-eq_of_cons-eq, tail-eq_of_cons-eq}
use Prim.Native.Nat.{ℕ, zero, suc, ◌<◌, ◌≤◌}
use native.Mathlib.Omega.{arith}
use Rattle.automaton.specs.Automaton.{Automaton, next, final, WellFormed}
use Rattle.events.specs.Monitor.{max_total, counted}
use Rattle.events.specs.Form.{EventForm, FormMoves}
use Rattle.events.proofs.MonitorLaws.{counted_most}
use Rattle.job.specs.Job.{Job, WellFormedJob}
use Rattle.job.specs.Walk.{Event, shadow, word, symbol_of, Place, Walk, stop, move, tell, Start, WalkFrom}
use Rattle.job.specs.Plan.{Enabling, full, enables, takes, state_at, alarm_at, alarms, Faithful, DifferAt, Different}
use Rattle.twomonitors.specs.Monitors.{Entry, walked, on_full, on_planned, elsewhere, events_in, Both, after_entry, after_list, reports, reports_planned, ProperList, AgreeOn, DisagreeOn, BeginBoth, ListOn, AlarmsKept, AlarmsDiffer, CallsExist, RecordsExist, NoneRefused}
use Rattle.job.proofs.Bounds.{told_symbol}

-- ---- a walk of a well-formed job

-- the symbols of a list of events are below a
unfoldable pub symbols_below : ℕ → List Event → Type 0
symbols_below a [] = Unit {0}
symbols_below a (e ∷ es) = (symbol_of e < a) × symbols_below a es

-- the symbols of a walk's events are below A
pub symbols_below_lem
    : {j : Job} {x y : Place} {es : List Event} → WellFormedJob j → Walk j x es y → symbols_below j.rule.symbols es
unfolding symbols_below
symbols_below_lem f stop = tt
symbols_below_lem f (move s k) = symbols_below_lem f k
symbols_below_lem f (tell t k) = (told_symbol f t, symbols_below_lem f k)

-- an event leads from a state below S to one, under any watch
pub state_below
    : (m : Automaton) (v : Enabling) (q : ℕ) (e : Event) → WellFormed m → symbol_of e < m.symbols → q < m.states
    → state_at m v q e < m.states
state_below m v q e f a h = go (takes v e)
  where
    go : (b : Bool) → cond b (next m q (symbol_of e)) q < m.states
    go true = f.next_below q (symbol_of e) h a
    go false = h

-- with all points watched every event is given
full_takes : (e : Event) → takes full e ≡ true
full_takes (shadow n a) = refl
full_takes (word a) = refl

module _ (f : EventForm) (form : FormMoves f) (m : Automaton) (w : Enabling) (wf : WellFormed m) where
  -- what is held is a record in a state below S, and its total is one of 64 bits
  pub record Stands (h : f.Held) (q n : ℕ) : Type 0 where
    pub begins : f.Begins q n h
    pub state : q < m.states
    pub total : n ≤ max_total

  -- equal records stand alike
  stands_same : {h k : f.Held} {q n : ℕ} → h ≡ k → Stands k q n → Stands h q n
  stands_same {q} {n} e s = subst (λ (x : f.Held). Stands x q n) (sym e) s

  -- equal totals
  stands_total : {h : f.Held} {q n k : ℕ} → n ≡ k → Stands h q k → Stands h q n
  stands_total {h} {q} e s = subst (λ (x : ℕ). Stands h q x) (sym e) s

  -- ---- one event

  -- on one record under a watch v: the report b, and what is left
  record Watched (v : Enabling) (e : Event) (q n : ℕ) (b : Bool) (h : f.Held) : Type 0 where
    report : b ≡ alarm_at m v q e
    left : Stands h (state_at m v q e) (counted (alarm_at m v q e) n)

  module _ (e : Event) (small : symbol_of e < m.symbols) {h : f.Held} {q n : ℕ} (s : Stands h q n) where
    -- a call that gives it is taken
    event_accepted : (c : f.Call) → f.Gives m (symbol_of e) c h → f.refusal (f.answer c h) ≡ false
    event_accepted c g = (form.events m (symbol_of e) q n c h wf small s.state s.total s.begins g).accepted

    -- full is given it
    full_watched : (c : f.Call) → f.Gives m (symbol_of e) c h → Watched full e q n (reports f c h) (f.left c h)
    full_watched c g =
        let to = next m q (symbol_of e) in
        let x = form.events m (symbol_of e) q n c h wf small s.state s.total s.begins g in
        record {
          report = x.alarm ∙ ap (λ (b : Bool). b && final m to) (sym (full_takes e));
          left =
              record {
                begins =
                    subst (λ (b : Bool). f.Begins (cond b to q) (counted (b && final m to) n) (f.left c h)) (sym (full_takes e)) x.left;
                state = state_below m full q e wf small s.state;
                total = counted_most (alarm_at m full q e) n s.total;
              };
        }

    -- planned is, where its point is watched
    planned_watched
        : (d : f.Call) → (takes w e ≡ true → f.Gives m (symbol_of e) d h)
        → Watched w e q n (reports_planned f w e d h) (cond (takes w e) (f.left d h) h)
    planned_watched d g =
        let x = go (takes w e) g in
        record {
          report = x.0;
          left =
              record {
                begins = x.1;
                state = state_below m w q e wf small s.state;
                total = counted_most (alarm_at m w q e) n s.total;
              };
        }
      where
        to : ℕ
        to = next m q (symbol_of e)

        go
            : (b : Bool) → (b ≡ true → f.Gives m (symbol_of e) d h)
            → (cond b (reports f d h) false ≡ (b && final m to))
            × f.Begins (cond b to q) (counted (b && final m to) n) (cond b (f.left d h) h)
        go true g =
            let x = form.events m (symbol_of e) q n d h wf small s.state s.total s.begins (g refl) in (x.alarm, x.left)
        go false g = (refl, s.begins)

  -- ---- a list of calls

  -- equal alarms from equal totals: the records agree
  pub alarms_agree
      : (t : Both f) (cs : List (Entry f)) (p q n : ℕ) → Stands t.full p n → Stands t.planned q n
      → symbols_below m.symbols (events_in cs) → ProperList m w t cs → alarms m full p (events_in cs) ≡ alarms m w q (events_in cs)
      → AgreeOn w t cs
  unfolding symbols_below events_in after_entry ProperList AgreeOn alarms
  alarms_agree t [] p q n x y a l e = tt
  alarms_agree t (walked u c d ∷ cs) p q n x y a l e =
      let on_full = full_watched u a.0 x c l.0 in
      let on_planned = planned_watched u a.0 y d l.1 in
      let alike = head-eq_of_cons-eq e in
      let left = stands_total (ap (λ (b : Bool). counted b n) alike) on_planned.left in (
        on_full.report ∙ alike ∙ sym on_planned.report,
        form.totals _ _ _ on_full.left.total on_full.left.begins ∙ sym (form.totals _ _ _ left.total left.begins),
        alarms_agree (after_entry w t (walked u c d)) cs _ _ _ on_full.left left a.1 l.2 (tail-eq_of_cons-eq e),
      )
  alarms_agree t (on_full c ∷ cs) p q n x y a l e =
      alarms_agree (after_entry w t (on_full c)) cs p q n (stands_same (form.refusals c t.full l.0) x) y a l.1 e
  alarms_agree t (on_planned c ∷ cs) p q n x y a l e =
      alarms_agree (after_entry w t (on_planned c)) cs p q n x (stands_same (form.refusals c t.planned l.0) y) a l.1 e
  alarms_agree t (elsewhere c h ∷ cs) p q n x y a l e = alarms_agree t cs p q n x y a l e

  -- records that agree have equal alarms
  pub agree_alarms
      : (t : Both f) (cs : List (Entry f)) (p q n k : ℕ) → Stands t.full p n → Stands t.planned q k
      → symbols_below m.symbols (events_in cs) → ProperList m w t cs → AgreeOn w t cs
      → alarms m full p (events_in cs) ≡ alarms m w q (events_in cs)
  unfolding symbols_below events_in after_entry ProperList AgreeOn alarms
  agree_alarms t [] p q n k x y a l g = refl
  agree_alarms t (walked u c d ∷ cs) p q n k x y a l g =
      let on_full = full_watched u a.0 x c l.0 in
      let on_planned = planned_watched u a.0 y d l.1 in
      ap₂ ◌∷◌ (sym on_full.report ∙ g.0 ∙ on_planned.report)
      (agree_alarms (after_entry w t (walked u c d)) cs _ _ _ _ on_full.left on_planned.left a.1 l.2 g.2)
  agree_alarms t (on_full c ∷ cs) p q n k x y a l g =
      agree_alarms (after_entry w t (on_full c)) cs p q n k (stands_same (form.refusals c t.full l.0) x) y a l.1 g
  agree_alarms t (on_planned c ∷ cs) p q n k x y a l g =
      agree_alarms (after_entry w t (on_planned c)) cs p q n k x (stands_same (form.refusals c t.planned l.0) y) a l.1 g
  agree_alarms t (elsewhere c h ∷ cs) p q n k x y a l g = agree_alarms t cs p q n k x y a l g

  -- alarms that differ at some event: the records disagree
  pub alarms_disagree
      : (t : Both f) (cs : List (Entry f)) (p q n k : ℕ) → Stands t.full p n → Stands t.planned q k
      → symbols_below m.symbols (events_in cs) → ProperList m w t cs → (i : ℕ)
      → DifferAt (alarms m full p (events_in cs)) (alarms m w q (events_in cs)) i → DisagreeOn w t cs
  unfolding symbols_below events_in after_entry ProperList DisagreeOn alarms
  alarms_disagree t [] p q n k x y a l i v = omega (arith, v.within)
  alarms_disagree t (walked u c d ∷ cs) p q n k x y a l zero v =
      inl
      ((full_watched u a.0 x c l.0).report ∙ v.differ ∙ ap not (sym (planned_watched u a.0 y d l.1).report))
  alarms_disagree t (walked u c d ∷ cs) p q n k x y a l (suc i) v =
      let on_full = full_watched u a.0 x c l.0 in
      let on_planned = planned_watched u a.0 y d l.1 in
      inr
      (alarms_disagree (after_entry w t (walked u c d)) cs _ _ _ _ on_full.left on_planned.left a.1 l.2 i
      (record { within = omega (arith, v.within); differ = v.differ }))
  alarms_disagree t (on_full c ∷ cs) p q n k x y a l i v =
      alarms_disagree (after_entry w t (on_full c)) cs p q n k (stands_same (form.refusals c t.full l.0) x) y a l.1 i v
  alarms_disagree t (on_planned c ∷ cs) p q n k x y a l i v =
      alarms_disagree (after_entry w t (on_planned c)) cs p q n k x (stands_same (form.refusals c t.planned l.0) y) a l.1 i v
  alarms_disagree t (elsewhere c h ∷ cs) p q n k x y a l i v = alarms_disagree t cs p q n k x y a l i v

  -- records that disagree have alarms that differ at some event
  pub disagree_alarms
      : (t : Both f) (cs : List (Entry f)) (p q n k : ℕ) → Stands t.full p n → Stands t.planned q k
      → symbols_below m.symbols (events_in cs) → ProperList m w t cs → DisagreeOn w t cs
      → (i : ℕ) × DifferAt (alarms m full p (events_in cs)) (alarms m w q (events_in cs)) i
  unfolding symbols_below events_in after_entry ProperList DisagreeOn alarms
  disagree_alarms t [] p q n k x y a l g = absurd g
  disagree_alarms t (walked u c d ∷ cs) p q n k x y a l (inl g) = (
    0,
    record {
      within = omega arith;
      differ = sym (full_watched u a.0 x c l.0).report ∙ g ∙ ap not (planned_watched u a.0 y d l.1).report;
    },
  )
  disagree_alarms t (walked u c d ∷ cs) p q n k x y a l (inr g) =
      let on_full = full_watched u a.0 x c l.0 in
      let on_planned = planned_watched u a.0 y d l.1 in
      let rest = disagree_alarms (after_entry w t (walked u c d)) cs _ _ _ _ on_full.left on_planned.left a.1 l.2 g in
      (suc rest.0, record { within = omega (arith, rest.1.within); differ = rest.1.differ })
  disagree_alarms t (on_full c ∷ cs) p q n k x y a l g =
      disagree_alarms (after_entry w t (on_full c)) cs p q n k (stands_same (form.refusals c t.full l.0) x) y a l.1 g
  disagree_alarms t (on_planned c ∷ cs) p q n k x y a l g =
      disagree_alarms (after_entry w t (on_planned c)) cs p q n k x (stands_same (form.refusals c t.planned l.0) y) a l.1 g
  disagree_alarms t (elsewhere c h ∷ cs) p q n k x y a l g = disagree_alarms t cs p q n k x y a l g

  -- no event's call is refused
  pub none_refused
      : (t : Both f) (cs : List (Entry f)) (p q n k : ℕ) → Stands t.full p n → Stands t.planned q k
      → symbols_below m.symbols (events_in cs) → ProperList m w t cs → NoneRefused w t cs
  unfolding symbols_below events_in after_entry ProperList NoneRefused
  none_refused t [] p q n k x y a l = tt
  none_refused t (walked u c d ∷ cs) p q n k x y a l = (
    event_accepted u a.0 x c l.0,
    λ g. event_accepted u a.0 y d (l.1 g),
    none_refused (after_entry w t (walked u c d)) cs _ _ _ _ (full_watched u a.0 x c l.0).left
        (planned_watched u a.0 y d l.1).left a.1 l.2,
  )
  none_refused t (on_full c ∷ cs) p q n k x y a l =
      none_refused (after_entry w t (on_full c)) cs p q n k (stands_same (form.refusals c t.full l.0) x) y a l.1
  none_refused t (on_planned c ∷ cs) p q n k x y a l =
      none_refused (after_entry w t (on_planned c)) cs p q n k x (stands_same (form.refusals c t.planned l.0) y) a l.1
  none_refused t (elsewhere c h ∷ cs) p q n k x y a l = none_refused t cs p q n k x y a l

-- ---- what `AgreeOn` says

-- full reports alarm exactly when planned does at an event where the records stand so, and after it the two totals are equal
pub record AgreesAt {f : EventForm} (w : Enabling) (t : Both f) (e : Event) (c d : f.Call) : Type 0 where
  pub reported : reports f c t.full ≡ reports_planned f w e d t.planned
  pub totals : f.total (after_entry w t (walked e c d)).full ≡ f.total (after_entry w t (walked e c d)).planned

-- so at every event of a list, as the records stand there
abbrev pub AgreesAtEvery : {f : EventForm} → Enabling → Both f → List (Entry f) → Type 0
AgreesAtEvery {f} w t cs =
    (before after : List (Entry f)) (e : Event) (c d : f.Call) → cs ≡ before ++ walked e c d ∷ after
    → AgreesAt w (after_list w t before) e c d

-- at every event after the first entry too
agrees_later
    : {f : EventForm} (w : Enabling) (t : Both f) (x : Entry f) (cs : List (Entry f)) → AgreesAtEvery w t (x ∷ cs)
    → AgreesAtEvery w (after_entry w t x) cs
unfolding after_list
agrees_later {f} w t x cs h before after e c d q = h (x ∷ before) after e c d (ap (λ (l : List (Entry f)). x ∷ l) q)

-- what `AgreeOn` says of one event of a list
agree_at
    : {f : EventForm} (w : Enabling) (t : Both f) (before after : List (Entry f)) (e : Event) (c d : f.Call)
    → AgreeOn w t (before ++ walked e c d ∷ after) → AgreesAt w (after_list w t before) e c d
unfolding after_entry after_list AgreeOn
agree_at w t [] after e c d g = record { reported = g.0; totals = g.1 }
agree_at w t (walked u b a ∷ cs) after e c d g = agree_at w (after_entry w t (walked u b a)) cs after e c d g.2
agree_at w t (on_full b ∷ cs) after e c d g = agree_at w (after_entry w t (on_full b)) cs after e c d g
agree_at w t (on_planned b ∷ cs) after e c d g = agree_at w (after_entry w t (on_planned b)) cs after e c d g
agree_at w t (elsewhere b h ∷ cs) after e c d g = agree_at w t cs after e c d g

-- what is so at every event makes `AgreeOn`
agree_of : {f : EventForm} (w : Enabling) (t : Both f) (cs : List (Entry f)) → AgreesAtEvery w t cs → AgreeOn w t cs
unfolding after_entry after_list AgreeOn
agree_of w t [] h = tt
agree_of w t (walked e c d ∷ cs) h =
    let here = h [] cs e c d refl in
    let rest = agrees_later w t (walked e c d) cs h in
    (here.reported, here.totals, agree_of w (after_entry w t (walked e c d)) cs rest)
agree_of w t (on_full c ∷ cs) h = agree_of w (after_entry w t (on_full c)) cs (agrees_later w t (on_full c) cs h)
agree_of w t (on_planned c ∷ cs) h = agree_of w (after_entry w t (on_planned c)) cs (agrees_later w t (on_planned c) cs h)
agree_of w t (elsewhere c k ∷ cs) h = agree_of w t cs (agrees_later w t (elsewhere c k) cs h)

-- `AgreeOn` is about every event of the list, whatever calls stand between
pub agree_says : {f : EventForm} (w : Enabling) (t : Both f) (cs : List (Entry f)) → AgreeOn w t cs ↔ AgreesAtEvery w t cs
agree_says w t cs = (λ g before after e c d q. agree_at w t before after e c d (subst (AgreeOn w t) q g), agree_of w t cs)

-- ---- the calls on a walk

-- on a well-formed job
module _ (f : EventForm) (form : FormMoves f) (j : Job) (plan : List ℕ) (wf : WellFormedJob j) where
  -- both records stand in the start's state
  module _ (s : Start j) (k : WalkFrom j s) (total : ℕ) (small : total ≤ max_total) (t : Both f) (b : BeginBoth f s.state total t) (c : ListOn f j plan s k t)
    where
      state_small : s.state < j.rule.states
      state_small = wf.entries s.node s.state s.admitted

      begin_full : Stands f form j.rule (enables plan) wf.rule t.full s.state total
      begin_full = record { begins = b.full; state = state_small; total = small }

      begin_planned : Stands f form j.rule (enables plan) wf.rule t.planned s.state total
      begin_planned = record { begins = b.planned; state = state_small; total = small }

      -- the list's symbols are below A
      listed_below : symbols_below j.rule.symbols (events_in c.calls)
      listed_below = subst (symbols_below j.rule.symbols) (sym c.events) (symbols_below_lem wf k.walk)

      -- no event's call is refused
      pub walk_taken : NoneRefused (enables plan) t c.calls
      walk_taken =
          none_refused f form j.rule (enables plan) wf.rule t c.calls s.state s.state total total begin_full begin_planned
          listed_below c.proper

      -- equal alarms: the records agree
      pub walk_agree
          : alarms j.rule full s.state k.events ≡ alarms j.rule (enables plan) s.state k.events
          → AgreeOn (enables plan) t c.calls
      walk_agree e =
          alarms_agree f form j.rule (enables plan) wf.rule t c.calls s.state s.state total begin_full begin_planned listed_below
          c.proper
          (subst
          (λ (es : List Event). alarms j.rule full s.state es ≡ alarms j.rule (enables plan) s.state es)
          (sym c.events) e)

      -- and only then
      pub walk_agreed
          : AgreeOn (enables plan) t c.calls
          → alarms j.rule full s.state k.events ≡ alarms j.rule (enables plan) s.state k.events
      walk_agreed g =
          subst (λ (es : List Event). alarms j.rule full s.state es ≡ alarms j.rule (enables plan) s.state es) c.events
          (agree_alarms f form j.rule (enables plan) wf.rule t c.calls s.state s.state total total begin_full begin_planned
          listed_below c.proper g)

      -- alarms that differ: the records disagree
      pub walk_disagree
          : (i : ℕ)
          → DifferAt (alarms j.rule full s.state k.events) (alarms j.rule (enables plan) s.state k.events) i
          → DisagreeOn (enables plan) t c.calls
      walk_disagree i v =
          alarms_disagree f form j.rule (enables plan) wf.rule t c.calls s.state s.state total total begin_full begin_planned
          listed_below c.proper i
          (subst
          (λ (es : List Event). DifferAt (alarms j.rule full s.state es) (alarms j.rule (enables plan) s.state es) i)
          (sym c.events) v)

      -- and only then
      pub walk_disagreed
          : DisagreeOn (enables plan) t c.calls
          → (i : ℕ) × DifferAt (alarms j.rule full s.state k.events) (alarms j.rule (enables plan) s.state k.events) i
      walk_disagreed g =
          subst
          (λ (es : List Event).
          (i : ℕ) × DifferAt (alarms j.rule full s.state es) (alarms j.rule (enables plan) s.state es) i)
          c.events
          (disagree_alarms f form j.rule (enables plan) wf.rule t c.calls s.state s.state total total begin_full begin_planned
          listed_below c.proper g)

  -- ---- a plan

  -- the first half holds of a faithful plan
  pub faithful_kept : Faithful j (enables plan) → AlarmsKept f j plan
  faithful_kept h s k total small t b c = walk_agree s k total small t b c (h s k)

  -- a plan that is different is told apart on the walk that shows it
  pub different_told : CallsExist f → Different j (enables plan) → AlarmsDiffer f j plan
  different_told exist d =
      record {
        start = d.start;
        walk = d.apart.walk;
        reports = λ total small t b c.
            walk_disagree d.start d.apart.walk total small t b c d.apart.place d.apart.differs;
        calls = λ t. (exist j wf plan d.start d.apart.walk t).0;
      }

  -- two records that begin in a start's state, with total 0
  beginning : RecordsExist f → (s : Start j) → (t : Both f) × BeginBoth f s.state 0 t
  beginning exist s =
      let h = exist s.state 0 (omega (arith, wf.entries s.node s.state s.admitted, wf.rule.few_states)) (omega arith) in
      (record { full = h.0; planned = h.0 }, record { full = h.1; planned = h.1 })

  -- the first half holds of no other plan, where there are records and calls
  pub kept_faithful : RecordsExist f → CallsExist f → AlarmsKept f j plan → Faithful j (enables plan)
  kept_faithful records exist h s k =
      let t = beginning records s in
      let c = (exist j wf plan s k t.0).0 in
      walk_agreed s k 0 (omega arith) t.0 t.1 c (h s k 0 (omega arith) t.0 t.1 c)

  -- and no other plan is told apart
  pub told_different : RecordsExist f → AlarmsDiffer f j plan → Different j (enables plan)
  told_different records d =
      let t = beginning records d.start in
      let c = d.calls t.0 in
      let r = walk_disagreed d.start d.walk 0 (omega arith) t.0 t.1 c (d.reports 0 (omega arith) t.0 t.1 c) in
      record { start = d.start; apart = record { walk = d.walk; place = r.0; differs = r.1 } }
