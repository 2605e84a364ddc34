-- What a change by a thread keeps, and how it passes what is put for other threads: the one thing that is proved of each call.
use Rattle.std.proofs.Common.{◌≡◌, ◌≢◌, ℕ, ◌+◌, ◌≤◌, Bool, true, false, cond, List, refl, sym, ap, ◌∙◌, arith}
use Rattle.model_laws.specs.Extents.{Extent, quiet}
use Rattle.egl_model.specs.State.{State}
use Rattle.egl_model.specs.Parts.{Own, OwnObjects, own_of, own_objects, put_at, put_own}
use Rattle.model_laws.specs.Shapes.{shapes}
use Rattle.model_laws.specs.Sound.{IsWhole}
use Rattle.model_laws.specs.Wants.{PixelsFit}
use Rattle.egl_model.specs.Sweep.{live_bytes, roots, sweep}
use Rattle.model_laws.proofs.Changes.FrameMoves.{Frame, bytes-play, frame-play, frame_self, frame_swept, frame_then}
use Rattle.model_laws.proofs.Changes.Moves.{extent, AllFit, AllHold, AllSet, Move, bytes_made, play}
use Rattle.model_laws.specs.Full.{IsFull}
use Rattle.model_laws.proofs.Changes.FullMoves.{full-play, full_swept, holds_of}
use Rattle.model_laws.proofs.Pixels.PixelLaws.{live_bytes-swept}
use Rattle.model_laws.proofs.Changes.PutMoves.{Stands, passes-play, own_objects-stand, stands-swept, stands_then, sweep-put}
use Rattle.model_laws.proofs.Changes.WholeMoves.{whole-play}
use Rattle.model_laws.proofs.References.WholeSweep.{whole-sweep}

-- what stays where a state comes to be another
pub record Keeps (e : Extent) (t : ℕ) (s a : State) : Type 0 where
  pub whole : IsWhole (shapes s.objects) s → IsWhole (shapes a.objects) a
  pub pixels : PixelsFit s → PixelsFit a
  pub stands : IsWhole (shapes s.objects) s → (v : ℕ) → v ≢ t → Stands s a v
  pub frame : Frame e t s a

-- a change by thread t, which keeps all this in a state and does the same whatever is put there for another thread
pub record Moved (e : Extent) (t : ℕ) (s : State) (f : State → State) : Type 0 where
  pub keeps : Keeps e t s (f s)
  pub put : IsWhole (shapes s.objects) s → (v : ℕ) (x : Own) → v ≢ t → f (put_own s v x) ≡ put_at (own_objects s v) v x (f s)

-- what thread t looks at, and what is put for another thread doesn't change
abbrev pub Blind : {A : Type 0} → ℕ → State → (State → A) → Type 0
Blind t s r = IsWhole (shapes s.objects) s → (v : ℕ) (x : Own) → v ≢ t → r (put_own s v x) ≡ r s

-- ---- Changes in a row, by a test, and by what is looked at.
pub moved_self : (t : ℕ) (s : State) → Moved quiet t s (λ a. a)
moved_self t s = record { keeps = record { whole = λ w. w; pixels = λ p. p; stands = λ w v ne. record { same = refl; held = λ n h. refl }; frame = frame_self t s }; put = λ w v x ne. refl }

keeps_then : (e : Extent) (t : ℕ) (a b c : State) → Keeps e t a b → Keeps quiet t b c → Keeps e t a c
keeps_then e t a b c f g = record {
  whole = λ w. g.whole (f.whole w);
  pixels = λ p. g.pixels (f.pixels p);
  stands = λ w v ne. stands_then a b c v (f.stands w v ne) (g.stands (f.whole w) v ne);
  frame = frame_then e t a b c f.frame g.frame;
}

pub moved_then : (e : Extent) (t : ℕ) (s : State) (f g : State → State) → Moved e t s f → Moved quiet t (f s) g → Moved e t s (λ a. g (f a))
moved_then e t s f g x y = record {
  keeps = keeps_then e t s (f s) (g (f s)) x.keeps y.keeps;
  put = λ w v o ne. let same = own_objects-stand s (f s) v (x.keeps.stands w v ne) in
      ap g (x.put w v o ne ∙ ap (λ (p : OwnObjects). put_at p v o (f s)) (sym same))
      ∙ y.put (x.keeps.whole w) v o ne ∙ ap (λ (p : OwnObjects). put_at p v o (g (f s))) same;
}

pub moved_cond : (e : Extent) (t : ℕ) (s : State) (b : Bool) (f g : State → State) → (b ≡ true → Moved e t s f) → (b ≡ false → Moved e t s g) → Moved e t s (λ a. cond b (f a) (g a))
moved_cond e t s true f g p q = p refl
moved_cond e t s false f g p q = q refl

pub moved_of : {A : Type 0} (e : Extent) (t : ℕ) (s : State) (r : State → A) (g : A → State → State) → Blind t s r → Moved e t s (g (r s)) → Moved e t s (λ a. g (r a) a)
moved_of e t s r g b x = record { keeps = x.keeps; put = λ w v o ne. ap (λ y. g y (put_own s v o)) (b w v o ne) ∙ x.put w v o ne }

-- ---- Sweeps.
keeps_swept : (e : Extent) (t : ℕ) (s a : State) → Keeps e t s a → Keeps e t s (sweep a)
keeps_swept e t s a f = record {
  whole = λ w. whole-sweep a (f.whole w);
  pixels = λ p. let q = f.pixels p in let e = live_bytes-swept (roots a) a.objects in omega (arith, q, e);
  stands = λ w v ne. stands_then s a (sweep a) v (f.stands w v ne) (stands-swept a v);
  frame = frame_swept e t s a f.frame;
}

pub moved_swept : (e : Extent) (t : ℕ) (s : State) (f : State → State) → Moved e t s f → Moved e t s (λ a. sweep (f a))
moved_swept e t s f x = record { keeps = keeps_swept e t s (f s) x.keeps; put = λ w v o ne. ap sweep (x.put w v o ne) ∙ sweep-put (own_objects s v) v o (f s) }

-- what goes nowhere goes no further
keeps_within : (e : Extent) (t : ℕ) (s a : State) → Keeps quiet t s a → Keeps e t s a
keeps_within e t s a f = record {
  whole = f.whole;
  pixels = f.pixels;
  stands = f.stands;
  frame = record {
    flags = λ q. f.frame.flags refl;
    next = let x = f.frame.next in omega (arith, x);
    others = f.frame.others;
    count = f.frame.count;
    handles = f.frame.handles;
    kept = λ q. f.frame.kept refl;
    objects = f.frame.objects;
    windows = f.frame.windows;
    video = f.frame.video;
  };
}

pub moved_within : (e : Extent) (t : ℕ) (s : State) (f : State → State) → Moved quiet t s f → Moved e t s f
moved_within e t s f x = record { keeps = keeps_within e t s (f s) x.keeps; put = x.put }

-- ---- A row of moves.
pub moved_by : (t : ℕ) (s : State) (ms : List Move) → AllHold ms → (PixelsFit s → live_bytes s.objects + bytes_made ms ≤ s.video) → AllFit t (shapes s.objects) s ms → Moved (extent ms) t s (play t ms)
moved_by t s ms h p f = record {
  keeps = record {
    whole = λ w. whole-play t ms s h f w;
    pixels = λ q. let a = p q in let b = bytes-play t ms s h in let v = (frame-play t ms s h).video in omega (arith, a, b, v);
    stands = λ w v ne. (passes-play t v (own_of s v) ms s ne h f w).stands;
    frame = frame-play t ms s h;
  };
  put = λ w v x ne. (passes-play t v x ms s ne h f w).put;
}

-- ---- Calls: changes that leave no part out, too.
pub record Acts (e : Extent) (t : ℕ) (s : State) (f : State → State) : Type 0 where
  pub moved : Moved e t s f
  pub full : IsFull s → IsFull (f s)

pub acts_self : (t : ℕ) (s : State) → Acts quiet t s (λ a. a)
acts_self t s = record { moved = moved_self t s; full = λ h. h }

pub acts_then : (e : Extent) (t : ℕ) (s : State) (f g : State → State) → Acts e t s f → Acts quiet t (f s) g → Acts e t s (λ a. g (f a))
acts_then e t s f g x y = record { moved = moved_then e t s f g x.moved y.moved; full = λ h. y.full (x.full h) }

pub acts_cond : (e : Extent) (t : ℕ) (s : State) (b : Bool) (f g : State → State) → (b ≡ true → Acts e t s f) → (b ≡ false → Acts e t s g) → Acts e t s (λ a. cond b (f a) (g a))
acts_cond e t s true f g p q = p refl
acts_cond e t s false f g p q = q refl

pub acts_of : {A : Type 0} (e : Extent) (t : ℕ) (s : State) (r : State → A) (g : A → State → State) → Blind t s r → Acts e t s (g (r s)) → Acts e t s (λ a. g (r a) a)
acts_of e t s r g b x = record { moved = moved_of e t s r g b x.moved; full = x.full }

pub acts_swept : (e : Extent) (t : ℕ) (s : State) (f : State → State) → Acts e t s f → Acts e t s (λ a. sweep (f a))
acts_swept e t s f x = record { moved = moved_swept e t s f x.moved; full = λ h. full_swept (f s) (x.full h) }

pub acts_within : (e : Extent) (t : ℕ) (s : State) (f : State → State) → Acts quiet t s f → Acts e t s f
acts_within e t s f x = record { moved = moved_within e t s f x.moved; full = x.full }

pub by_moves : (t : ℕ) (s : State) (ms : List Move) → AllSet ms → (PixelsFit s → live_bytes s.objects + bytes_made ms ≤ s.video) → AllFit t (shapes s.objects) s ms → Acts (extent ms) t s (play t ms)
by_moves t s ms h p f = record { moved = moved_by t s ms (holds_of ms h) p f; full = full-play t ms s h }

-- a row whose new objects are whole where the state is
pub by_full_moves : (t : ℕ) (s : State) (ms : List Move) → AllHold ms → (IsFull s → AllSet ms) → (PixelsFit s → live_bytes s.objects + bytes_made ms ≤ s.video) → AllFit t (shapes s.objects) s ms → Acts (extent ms) t s (play t ms)
by_full_moves t s ms a h p f = record { moved = moved_by t s ms a p f; full = λ u. full-play t ms s (h u) u }

-- a row that makes no pixels
pub by_quiet_moves : (t : ℕ) (s : State) (ms : List Move) → bytes_made ms ≡ 0 → AllSet ms → AllFit t (shapes s.objects) s ms → Acts (extent ms) t s (play t ms)
by_quiet_moves t s ms e h f = by_moves t s ms h (λ p. omega (arith, e, p)) f

-- one that is told by what the thread looks at
pub by_quiet_row : (t : ℕ) (s : State) (row : State → List Move) → Blind t s row → bytes_made (row s) ≡ 0 → AllSet (row s) → AllFit t (shapes s.objects) s (row s) → Acts (extent (row s)) t s (λ a. play t (row a) a)
by_quiet_row t s row b e h f = acts_of (extent (row s)) t s row (play t) b (by_quiet_moves t s (row s) e h f)
