-- What each number of a round is, and how one party's change leaves the others.
use Rattle.std.proofs.Common.{◌≡◌, ◌≢◌, ◌⊎◌, inl, inr, ⊎_elim, ℕ, ◌<◌, ◌≤◌, Bool, true, false, ◌||◌, List, [], ◌∷◌, ◌++◌, sym, refl, ap, ◌∙◌, subst, arith}
use Rattle.std.proofs.Common.{Some, None, if◌then◌else◌}
use Rattle.spindle_parts.specs.State.{Status, In, Party, Round, put, no_set, blank, party_of, put_party, times}
use Rattle.spindle_parts.specs.Steps.{with_status}
use Rattle.spindle_parts.proofs.Parties.{by_equal, by_option, put_here, put_else, put_all, look_here, look_else, times_same, times_else}

pub data Fate : Type 0 where
  Open : Fate
  Held : (p : ℕ) → Fate
  Ran : (p : ℕ) → Fate
  Done : Fate

abbrev pub started : Fate → ℕ
started Open = 0
started (Held p) = 0
started f = 1

abbrev pub over : Fate → ℕ
over Done = 1
over f = 0

pub weights : (f : Fate) → (started f ≤ 1) × (over f ≤ started f)
weights Done = (omega arith, omega arith)
weights f = (omega arith, omega arith)

pub record Fits (fate : ℕ → Fate) (p : ℕ) (x : Party) : Type 0 where
  pub held : (k : ℕ) → x.taken k ≡ true → fate k ≡ Held p
  pub holds : (k : ℕ) → fate k ≡ Held p → x.taken k ≡ true
  pub ran : (k : ℕ) → x.running ≡ Some k → fate k ≡ Ran p
  pub runs : (k : ℕ) → fate k ≡ Ran p → x.running ≡ Some k
  pub within : (k : ℕ) → (fate k ≡ Held p) ⊎ (fate k ≡ Ran p) → x.status ≡ In

pub record Work (fate : ℕ → Fate) (r : Round) (ps : List Party) : Type 0 where
  pub begun : (k : ℕ) → times k r.begun ≡ started (fate k)
  pub finished : (k : ℕ) → times k r.finished ≡ over (fate k)
  pub fits : (p : ℕ) → Fits fate p (party_of ps p)
  pub below : (k : ℕ) → fate k ≢ Open → k < r.jobs
  pub stops : r.stopped ≡ true → (r.stoppable ≡ true) × (0 < r.jobs)
  pub saw : (p : ℕ) → r.seen p ≡ true → r.stopped ≡ true

-- an ended round
pub record Complete (r : Round) : Type 0 where
  pub once : (k : ℕ) → times k r.begun ≤ 1
  pub same : (k : ℕ) → times k r.finished ≡ times k r.begun
  pub below : (k : ℕ) → 0 < times k r.begun → k < r.jobs
  pub full : r.stopped ≡ false → (k : ℕ) → k < r.jobs → times k r.begun ≡ 1
  pub stops : r.stopped ≡ true → r.stoppable ≡ true

pub not_true : (b : Bool) → (b ≡ true → ⊥) → b ≡ false
not_true true n = absurd (n refl)
not_true false n = refl

or_true : (a b : Bool) → (a || b) ≡ true → (a ≡ true) ⊎ (b ≡ true)
or_true true b e = inl refl
or_true false b e = inr e

or_left : (a b : Bool) → a ≡ true → (a || b) ≡ true
or_left true b e = refl
or_left false b e = absurd cc

pub or_right : (a b : Bool) → b ≡ true → (a || b) ≡ true
or_right true b e = refl
or_right false b e = e

-- f is not of the party q
abbrev pub Foreign : ℕ → Fate → Type 0
Foreign q f = (f ≢ Held q) × (f ≢ Ran q)

own : (p q : ℕ) → q ≢ p → Foreign q (Held p) × Foreign q (Ran p)
own p q other = (((λ h. let b : p ≡ q = cc in other (sym b)), (λ h. cc)), ((λ h. cc), (λ h. let b : p ≡ q = cc in other (sym b))))

-- the number k is as it was, or was and is of no concern to q
abbrev pub Spared : (ℕ → Fate) → (ℕ → Fate) → ℕ → ℕ → Type 0
Spared fate fate' q k = (fate' k ≡ fate k) ⊎ (Foreign q (fate k) × Foreign q (fate' k))

pub others_fit : (fate fate' : ℕ → Fate) (q : ℕ) (x : Party) → ((k : ℕ) → Spared fate fate' q k) → Fits fate q x → Fits fate' q x
others_fit fate fate' q x spared f = record {
  held = λ k h. ⊎_elim (λ (e : fate' k ≡ fate k). e ∙ f.held k h) (λ (t : Foreign q (fate k) × Foreign q (fate' k)). absurd (t.0.0 (f.held k h))) (spared k);
  holds = λ k h. ⊎_elim (λ (e : fate' k ≡ fate k). f.holds k (sym e ∙ h)) (λ (t : Foreign q (fate k) × Foreign q (fate' k)). absurd (t.1.0 h)) (spared k);
  ran = λ k h. ⊎_elim (λ (e : fate' k ≡ fate k). e ∙ f.ran k h) (λ (t : Foreign q (fate k) × Foreign q (fate' k)). absurd (t.0.1 (f.ran k h))) (spared k);
  runs = λ k h. ⊎_elim (λ (e : fate' k ≡ fate k). f.runs k (sym e ∙ h)) (λ (t : Foreign q (fate k) × Foreign q (fate' k)). absurd (t.1.1 h)) (spared k);
  within = λ k h. ⊎_elim (λ (e : fate' k ≡ fate k). f.within k (⊎_elim (λ a. inl (sym e ∙ a)) (λ a. inr (sym e ∙ a)) h))
      (λ (t : Foreign q (fate k) × Foreign q (fate' k)). absurd (⊎_elim t.1.0 t.1.1 h)) (spared k);
}

-- the party p is y from now on
pub fits_put : (fate fate' : ℕ → Fate) (ps : List Party) (p : ℕ) (y : Party) → Fits fate' p y
    → ((q k : ℕ) → q ≢ p → Spared fate fate' q k) → ((q : ℕ) → Fits fate q (party_of ps q)) → (q : ℕ) → Fits fate' q (party_of (put_party ps p y) q)
fits_put fate fate' ps p y mine spared f q = by_equal q p
    (λ same. subst (λ (z : ℕ). Fits fate' z (party_of (put_party ps p y) z)) (sym same) (subst (Fits fate' p) (sym (look_here ps p y)) mine))
    (λ other. subst (Fits fate' q) (sym (look_else ps p y q other)) (others_fit fate fate' q (party_of ps q) (λ k. spared q k other) (f q)))

-- a new status, where it stays `in` or has nothing
pub with_status_fits : (fate : ℕ → Fate) (p : ℕ) (x : Party) (t : Status)
    → (t ≡ In) ⊎ (((k : ℕ) → x.taken k ≡ false) × (x.running ≡ None)) → Fits fate p x → Fits fate p (with_status t x)
with_status_fits fate p x t ok f = record {
  held = f.held;
  holds = f.holds;
  ran = f.ran;
  runs = f.runs;
  within = λ k h. ⊎_elim (λ (e : t ≡ In). e) (λ (i : ((k : ℕ) → x.taken k ≡ false) × (x.running ≡ None)). ⊎_elim
      (λ a. let b = f.holds k a in let c = i.0 k in cc) (λ a. let b = f.runs k a in let c = i.1 in cc) h) ok;
}

module _ (fate : ℕ → Fate) (r : Round) (ps : List Party) (w : Work fate r ps) (p : ℕ) where
  -- the party p becomes y, in a round with other numbers begun and finished
  party_work : (fate' : ℕ → Fate) (b f : List ℕ) (y : Party) → ((k : ℕ) → times k b ≡ started (fate' k)) → ((k : ℕ) → times k f ≡ over (fate' k))
      → Fits fate' p y → ((q k : ℕ) → q ≢ p → Spared fate fate' q k) → ((k : ℕ) → fate' k ≢ Open → k < r.jobs)
      → Work fate' (record r { begun = b; finished = f }) (put_party ps p y)
  party_work fate' b f y begun finished fits spared below =
      record { begun = begun; finished = finished; fits = fits_put fate fate' ps p y fits spared w.fits; below = below; stops = w.stops; saw = w.saw }

  pub status_work : (t : Status) → (t ≡ In) ⊎ (((k : ℕ) → (party_of ps p).taken k ≡ false) × ((party_of ps p).running ≡ None))
      → Work fate r (put_party ps p (with_status t (party_of ps p)))
  status_work t ok = party_work fate r.begun r.finished (with_status t (party_of ps p)) w.begun w.finished
      (with_status_fits fate p (party_of ps p) t ok (w.fits p)) (λ q k _. inl refl) w.below

  -- one number, from the fate f to g, which concern p alone
  spared_at : (k : ℕ) (g : Fate) → ((q : ℕ) → q ≢ p → Foreign q (fate k) × Foreign q g) → (q j : ℕ) → q ≢ p → Spared fate (put fate k g) q j
  spared_at k g alone q j other = by_equal j k
      (λ e. inr (subst (λ (z : ℕ). Foreign q (fate z) × Foreign q (put fate k g z)) (sym e)
      (subst (λ (z : Fate). Foreign q (fate k) × Foreign q z) (sym (put_here fate k g)) (alone q other))))
      (λ n. inl (put_else fate k g j n))

  pub begin_work : (k : ℕ) → (party_of ps p).status ≡ In → (party_of ps p).running ≡ None → (party_of ps p).taken k ≡ true → Work (put fate k (Ran p))
      (record r { begun = r.begun ++ k ∷ [] }) (put_party ps p (record (party_of ps p) { running = Some k; taken = put (party_of ps p).taken k false }))
  begin_work k is_in idle mine = let f = w.fits p in let was : fate k ≡ Held p = f.held k mine in
      party_work (put fate k (Ran p)) (r.begun ++ k ∷ []) r.finished (record (party_of ps p) { running = Some k; taken = put (party_of ps p).taken k false })
      (put_all (λ j g. times j (r.begun ++ k ∷ []) ≡ started g) fate k (Ran p)
      (let a = w.begun k in let b = ap started was in let d = times_same k r.begun in omega arith) (λ j n. times_else j r.begun k n ∙ w.begun j))
      (put_all (λ j g. times j r.finished ≡ over g) fate k (Ran p) (w.finished k ∙ ap over was) (λ j _. w.finished j))
      record {
        held = λ j h. by_equal j k
            (λ e. let a = put_here (party_of ps p).taken k false in let b = ap (put (party_of ps p).taken k false) e in absurd cc)
            (λ n. put_else fate k (Ran p) j n ∙ f.held j (sym (put_else (party_of ps p).taken k false j n) ∙ h));
        holds = put_all (λ j g. g ≡ Held p → put (party_of ps p).taken k false j ≡ true) fate k (Ran p) (λ h. absurd cc)
            (λ j n h. put_else (party_of ps p).taken k false j n ∙ f.holds j h);
        ran = λ j h. let e : k ≡ j = cc in subst (λ (z : ℕ). put fate k (Ran p) z ≡ Ran p) e (put_here fate k (Ran p));
        runs = put_all (λ j g. g ≡ Ran p → Some k ≡ Some j) fate k (Ran p) (λ _. refl) (λ j _ h. let a = f.runs j h in absurd cc);
        within = λ j h. is_in;
      }
      (spared_at k (Ran p) (λ q other. (subst (Foreign q) (sym was) (own p q other).0, (own p q other).1)))
      (put_all (λ j g. g ≢ Open → j < r.jobs) fate k (Ran p) (λ _. w.below k (λ z. let a = was in cc)) (λ j _. w.below j))

  pub finish_work : (k : ℕ) → (party_of ps p).running ≡ Some k
      → Work (put fate k Done) (record r { finished = r.finished ++ k ∷ [] }) (put_party ps p (record (party_of ps p) { running = None }))
  finish_work k runs = let f = w.fits p in let was : fate k ≡ Ran p = f.ran k runs in
      let only : (j : ℕ) → fate j ≡ Ran p → j ≡ k = λ j h. let a = f.runs j h in cc in
      party_work (put fate k Done) r.begun (r.finished ++ k ∷ []) (record (party_of ps p) { running = None })
      (put_all (λ j g. times j r.begun ≡ started g) fate k Done (w.begun k ∙ ap started was) (λ j _. w.begun j))
      (put_all (λ j g. times j (r.finished ++ k ∷ []) ≡ over g) fate k Done (let a = times_same k r.finished in
      let b = w.finished k in let c = ap over was in omega arith) (λ j n. times_else j r.finished k n ∙ w.finished j))
      record {
        held = λ j h. let a = f.held j h in put_else fate k Done j (λ e. let b = ap fate e in let c = was in absurd cc) ∙ a;
        holds = put_all (λ j g. g ≡ Held p → (party_of ps p).taken j ≡ true) fate k Done (λ h. absurd cc) (λ j _. f.holds j);
        ran = λ j h. absurd cc;
        runs = put_all (λ j g. g ≡ Ran p → None ≡ Some j) fate k Done (λ h. absurd cc) (λ j n h. absurd (n (only j h)));
        within = put_all (λ j g. (g ≡ Held p) ⊎ (g ≡ Ran p) → (party_of ps p).status ≡ In) fate k Done (⊎_elim (λ h. absurd cc) (λ h. absurd cc))
            (λ j _. f.within j);
      }
      (spared_at k Done (λ q other. (((λ h. let a = was in cc), (λ h. let a = was in let b : p ≡ q = cc in other (sym b))), ((λ h. cc), (λ h. cc)))))
      (put_all (λ j g. g ≢ Open → j < r.jobs) fate k Done (λ _. w.below k (λ z. let a = was in cc)) (λ j _. w.below j))

  -- a whole set goes from one fate to another
  bulk : (P : ℕ → Fate → Type 0) (some : ℕ → Bool) (g : Fate)
      → ((k : ℕ) → some k ≡ true → P k g) → ((k : ℕ) → some k ≡ false → P k (fate k)) → (k : ℕ) → P k (if some k then g else fate k)
  bulk P some g hit miss k = go (some k) (hit k) (miss k)
    where
      go : (b : Bool) → (b ≡ true → P k g) → (b ≡ false → P k (fate k)) → P k (if b then g else fate k)
      go true a b = a refl
      go false a b = b refl

  bulk_work : (some : ℕ → Bool) (g : Fate) (y : Party)
      → ((k : ℕ) → some k ≡ true → started (fate k) ≡ started g) → ((k : ℕ) → some k ≡ true → over (fate k) ≡ over g)
      → Fits (λ k. if some k then g else fate k) p y → ((k q : ℕ) → some k ≡ true → q ≢ p → Foreign q (fate k) × Foreign q g)
      → ((k : ℕ) → some k ≡ true → g ≢ Open → k < r.jobs) → Work (λ k. if some k then g else fate k) r (put_party ps p y)
  bulk_work some g y begun finished fits alone below = party_work (λ k. if some k then g else fate k) r.begun r.finished y
      (bulk (λ k h. times k r.begun ≡ started h) some g (λ k e. w.begun k ∙ begun k e) (λ k _. w.begun k))
      (bulk (λ k h. times k r.finished ≡ over h) some g (λ k e. w.finished k ∙ finished k e) (λ k _. w.finished k)) fits
      (λ q k other. bulk (λ j h. (h ≡ fate j) ⊎ (Foreign q (fate j) × Foreign q h)) some g (λ j e. inr (alone j q e other)) (λ j e. inl refl) k)
      (bulk (λ k h. h ≢ Open → k < r.jobs) some g below (λ k _. w.below k))

  pub take_work : (some : ℕ → Bool) → (party_of ps p).status ≡ In → ((k : ℕ) → some k ≡ true → (fate k ≡ Open) × (k < r.jobs))
      → Work (λ k. if some k then Held p else fate k) r (put_party ps p (record (party_of ps p) { taken = λ k. (party_of ps p).taken k || some k }))
  take_work some is_in is_open = let f = w.fits p in bulk_work some (Held p) (record (party_of ps p) { taken = λ k. (party_of ps p).taken k || some k })
      (λ k e. ap started (is_open k e).0) (λ k e. ap over (is_open k e).0)
      record {
        held = λ k h. bulk (λ j g. ((party_of ps p).taken j || some j) ≡ true → g ≡ Held p) some (Held p)
            (λ j e _. refl) (λ j e t. ⊎_elim (f.held j) (λ a. absurd cc) (or_true ((party_of ps p).taken j) (some j) t)) k h;
        holds = bulk (λ j g. g ≡ Held p → ((party_of ps p).taken j || some j) ≡ true) some (Held p)
            (λ j e _. or_right ((party_of ps p).taken j) (some j) e) (λ j e t. or_left ((party_of ps p).taken j) (some j) (f.holds j t));
        ran = λ k h. bulk (λ j g. (party_of ps p).running ≡ Some j → g ≡ Ran p) some (Held p)
            (λ j e t. let a = f.ran j t in let b = (is_open j e).0 in absurd cc) (λ j _. f.ran j) k h;
        runs = bulk (λ j g. g ≡ Ran p → (party_of ps p).running ≡ Some j) some (Held p) (λ j e h. absurd cc) (λ j _. f.runs j);
        within = λ k _. is_in;
      }
      (λ k q e other. let a = (is_open k e).0 in (((λ h. cc), (λ h. cc)), ((λ h. let b : p ≡ q = cc in other (sym b)), (λ h. cc))))
      (λ k e _. (is_open k e).1)

  pub put_back_work : Work (λ k. if (party_of ps p).taken k then Open else fate k) r (put_party ps p (record (party_of ps p) { taken = no_set }))
  put_back_work = let f = w.fits p in let some : ℕ → Bool = (party_of ps p).taken in bulk_work some Open (record (party_of ps p) { taken = no_set })
      (λ k e. ap started (f.held k e)) (λ k e. ap over (f.held k e))
      record {
        held = λ k h. absurd cc;
        holds = bulk (λ j g. g ≡ Held p → false ≡ true) some Open (λ j e h. absurd cc) (λ j e h. let a = f.holds j h in absurd cc);
        ran = λ k h. bulk (λ j g. (party_of ps p).running ≡ Some j → g ≡ Ran p) some Open
            (λ j e t. let a = f.ran j t in let b = f.held j e in absurd cc) (λ j _. f.ran j) k h;
        runs = bulk (λ j g. g ≡ Ran p → (party_of ps p).running ≡ Some j) some Open (λ j e h. absurd cc) (λ j _. f.runs j);
        within = bulk (λ j g. (g ≡ Held p) ⊎ (g ≡ Ran p) → (party_of ps p).status ≡ In) some Open
            (λ j e. ⊎_elim (λ h. absurd cc) (λ h. absurd cc)) (λ j _. f.within j);
      }
      (λ k q e other. let a = f.held k e in (((λ h. let b : p ≡ q = cc in other (sym b)), (λ h. cc)), ((λ h. cc), (λ h. cc)))) (λ k e h. absurd (h refl))

  -- the round is stopped, or the party sees that it is
  pub see_work : (st : Bool) → (r.stopped ≡ true → st ≡ true)
      → (st ≡ true → (r.stoppable ≡ true) × (0 < r.jobs)) → st ≡ true → Work fate (record r { stopped = st; seen = put r.seen p true }) ps
  see_work st more ok on = record { begun = w.begun; finished = w.finished; fits = w.fits; below = w.below; stops = ok; saw = λ q h. on }

-- no party has a number, and none was begun
pub open_work : (qs : List Party) → ((q : ℕ) → ((k : ℕ) → (party_of qs q).taken k ≡ false) × ((party_of qs q).running ≡ None)) → Work (λ _. Open) blank qs
open_work qs idle = record {
  begun = λ _. refl;
  finished = λ _. refl;
  fits = λ q. let i = idle q in record {
    held = λ k t. let a = i.0 k in absurd cc;
    holds = λ k t. absurd cc;
    ran = λ k t. let a = i.1 in absurd cc;
    runs = λ k t. absurd cc;
    within = λ k. ⊎_elim (λ t. absurd cc) (λ t. absurd cc);
  };
  below = λ k n. absurd (n refl);
  stops = λ e. absurd cc;
  saw = λ q e. absurd cc;
}

open_or : (f : Fate) → (f ≡ Open) ⊎ (f ≢ Open)
open_or Open = inl refl
open_or f = inr (λ e. cc)

module _ (fate : ℕ → Fate) (r : Round) (ps : List Party) (w : Work fate r ps) where
  -- with no party in it each number is open or done
  settled : ((q : ℕ) → (party_of ps q).status ≢ In) → (k : ℕ) → (fate k ≡ Open) ⊎ (fate k ≡ Done)
  settled none_in k = go (fate k) refl
    where
      go : (f : Fate) → fate k ≡ f → (fate k ≡ Open) ⊎ (fate k ≡ Done)
      go Open e = inl e
      go (Held q) e = absurd (none_in q ((w.fits q).within k (inl e)))
      go (Ran q) e = absurd (none_in q ((w.fits q).within k (inr e)))
      go Done e = inr e

  pub completes : ((q : ℕ) → (party_of ps q).status ≢ In) → ((k : ℕ) → k < r.jobs → fate k ≢ Open) ⊎ (r.stopped ≡ true) → Complete r
  completes none_in spent = record {
    once = λ k. let a = w.begun k in let b = (weights (fate k)).0 in omega arith;
    same = λ k. let a = w.begun k in let b = w.finished k in let c : over (fate k) ≡ started (fate k) =
        ⊎_elim (λ e. ap over e ∙ sym (ap started e)) (λ e. ap over e ∙ sym (ap started e)) (settled none_in k) in omega arith;
    below = λ k some. ⊎_elim (λ e. let a = w.begun k in let b = ap started e in absurd (omega arith)) (λ e. w.below k (λ o. cc)) (settled none_in k);
    full = λ going k lt. ⊎_elim (λ all. ⊎_elim (λ e. absurd (all k lt e)) (λ e. w.begun k ∙ ap started e) (settled none_in k)) (λ st. absurd cc) spent;
    stops = λ e. (w.stops e).0;
  }

  pub none_begun : r.jobs ≡ 0 → (k : ℕ) → fate k ≡ Open
  none_begun z k = ⊎_elim (λ e. e) (λ n. let a = w.below k n in absurd (omega arith)) (open_or (fate k))

  pub publish_work : (b : Bool) (n : ℕ) → r.jobs ≡ 0 → Work fate (record r { jobs = n; stoppable = b }) ps
  publish_work b n z = record {
    begun = w.begun;
    finished = w.finished;
    fits = w.fits;
    below = λ k o. absurd (o (none_begun z k));
    stops = λ e. let a = (w.stops e).1 in absurd (omega arith);
    saw = w.saw;
  }

  pub free_is_open : (k : ℕ) → times k r.begun ≡ 0 → ((p : ℕ) → (party_of ps p).taken k ≡ false) → fate k ≡ Open
  free_is_open k zero_times free = go (fate k) refl
    where
      go : (f : Fate) → fate k ≡ f → fate k ≡ Open
      go Open e = e
      go (Held q) e = let a = (w.fits q).holds k e in let b = free q in absurd cc
      go f e = let a = w.begun k in let b = ap started e in absurd (omega arith)

  pub open_is_free : (k : ℕ) → fate k ≡ Open → (times k r.begun ≡ 0) × ((p : ℕ) → (party_of ps p).taken k ≡ false)
  open_is_free k e = (w.begun k ∙ ap started e, λ p. not_true ((party_of ps p).taken k) (λ t. let a = (w.fits p).held k t in cc))

  -- who is not in has nothing
  pub idle_out : (p : ℕ) → (party_of ps p).status ≢ In → ((k : ℕ) → (party_of ps p).taken k ≡ false) × ((party_of ps p).running ≡ None)
  idle_out p n = let f = w.fits p in
      let none : (party_of ps p).running ≡ None = by_option (party_of ps p).running (λ e. e) (λ k e. absurd (n (f.within k (inr (f.ran k e))))) in
      ((λ k. not_true ((party_of ps p).taken k) (λ t. n (f.within k (inl (f.held k t))))), none)

  -- the next round, for the same parties with other statuses
  pub restarts : ((q : ℕ) → (party_of ps q).status ≢ In)
      → (qs : List Party) → ((q : ℕ) → (t : Status) × (party_of qs q ≡ with_status t (party_of ps q))) → Work (λ _. Open) blank qs
  restarts none_in qs as_before = open_work qs
      (λ q. subst (λ (x : Party). ((k : ℕ) → x.taken k ≡ false) × (x.running ≡ None)) (sym (as_before q).1) (idle_out q (none_in q)))
