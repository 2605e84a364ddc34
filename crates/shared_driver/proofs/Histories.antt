-- Histories of threads with calls of their own at the end.
use Rattle.std.proofs.Common.{◌≡◌, ℕ, ◌<◌, Bool, true, false, ◌&&◌, List, [], ◌∷◌, ◌++◌, refl, sym, ap, ◌∙◌, subst, arith, get_or}
use Rattle.std.specs.Prelude.{All}
use Rattle.std.proofs.lemmas.Bool.{and_parts, eqb-true, eq-eqb}
use Rattle.std.proofs.lemmas.List.{append_assoc, length-replicate}
use Rattle.surface_store.specs.Windows.{WindowValue}
use Rattle.model_laws.specs.Full.{IsWindow}
use Rattle.egl_calls.specs.Calls.{ReplyValue}
use Rattle.egl_calls.specs.declared.entries.Entry.{Entry}
use Rattle.egl_model.specs.State.{State, capacity, initial, opening}
use Rattle.model_laws.specs.Shapes.{shapes}
use Rattle.model_laws.specs.Sound.{IsSound, IsWhole}
use Rattle.egl_model.specs.Step.{step}
use Rattle.model_laws.specs.Frame.{AreLocalFrom, AreOf, AreOfOthers, IsReady}
use Rattle.model_laws.specs.Hidden.{hide}
use Rattle.egl_model.specs.History.{IsLegalFrom, replay_from}
use Rattle.model_laws.specs.Local.{is_local, locally, part_after}
use Rattle.egl_model.specs.Parts.{Private, part_of}
use Rattle.model_laws.proofs.Steps.Framing.{has_frame, ready-step}
use Rattle.model_laws.proofs.Steps.HistoryLaws.{IsLegalFrom-append, replay_from-append}
use Rattle.model_laws.proofs.Parts.LateEntry.{late_entry, late_local}
use Rattle.model_laws.proofs.Steps.StepKeeps.{sides_of_none, sound-opening}
use Rattle.model_laws.proofs.References.WholeSweep.{linked_from}
use Rattle.driver_core.specs.Machine.{outs}
use Rattle.driver_core.specs.Parts.{FitsThread}
use Rattle.driver_core.proofs.AwayLaws.{tail_fits, tail_stays}
use Rattle.shared_driver.specs.Cores.{IsLegalAt, are_local, replies_from}

-- ---- Legal histories, as an equation and entry by entry.

abbrev pub first_of : ReplyValue → List ReplyValue → ReplyValue
first_of d [] = d
first_of d (r ∷ rs) = r

abbrev pub rest_of : List ReplyValue → List ReplyValue
rest_of [] = []
rest_of (r ∷ rs) = rs

pub legal_from : (a : State) (es : List Entry) → IsLegalAt a es → IsLegalFrom a es
legal_from a [] h = tt
legal_from a (e ∷ es) h = (sym (ap (first_of e.reply) h), legal_from (step a e.thread e.call).state es (ap rest_of h))

pub legal_at : (a : State) (es : List Entry) → IsLegalFrom a es → IsLegalAt a es
legal_at a [] h = refl
legal_at a (e ∷ es) h = ap (λ r. r ∷ replies_from (step a e.thread e.call).state es) (sym h.0) ∙ ap (λ l. e.reply ∷ l) (legal_at (step a e.thread e.call).state es h.1)

pub legal_first : (a : State) (xs ys : List Entry) → IsLegalFrom a (xs ++ ys) → IsLegalFrom a xs
legal_first a [] ys h = tt
legal_first a (e ∷ xs) ys h = (h.0, legal_first (step a e.thread e.call).state xs ys h.1)

pub legal_rest : (a : State) (xs ys : List Entry) → IsLegalFrom a (xs ++ ys) → IsLegalFrom (replay_from a xs) ys
legal_rest a [] ys h = h
legal_rest a (e ∷ xs) ys h = legal_rest (step a e.thread e.call).state xs ys h.1

pub legal_more : (a : State) (es : List Entry) (e : Entry) → IsLegalFrom a es → e.reply ≡ (step (replay_from a es) e.thread e.call).reply → IsLegalFrom a (es ++ e ∷ [])
legal_more a es e h k = IsLegalFrom-append a es (e ∷ []) h (k, tt)

pub replay_more : (a : State) (es : List Entry) (e : Entry) → replay_from a (es ++ e ∷ []) ≡ (step (replay_from a es) e.thread e.call).state
replay_more a es e = replay_from-append a es (e ∷ [])

-- ---- A thread's own calls.
pub of_thread : (s : State) (t : ℕ) (es : List Entry) → are_local s t es ≡ true → AreOf t es
of_thread s t [] h = tt
of_thread s t (e ∷ es) h = let p = and_parts _ _ h in (eqb-true e.thread t p.0, of_thread (step s e.thread e.call).state t es (and_parts _ _ p.1).1)

pub each_local : (s : State) (t : ℕ) (es : List Entry) → are_local s t es ≡ true → AreLocalFrom part_of is_local s t es
each_local s t [] h = tt
each_local s t (e ∷ es) h = let p = and_parts _ _ (and_parts _ _ h).1 in (p.0, each_local (step s e.thread e.call).state t es p.1)

both : (a b : Bool) → a ≡ true → b ≡ true → (a && b) ≡ true
both a b h k = ap (λ x. x && b) h ∙ ap (λ x. true && x) k

pub test_local : (s : State) (t : ℕ) (es : List Entry) → AreOf t es → AreLocalFrom part_of is_local s t es → are_local s t es ≡ true
test_local s t [] w l = refl
test_local s t (e ∷ es) w l = both _ _ (eq-eqb e.thread t w.0) (both _ _ l.0 (test_local (step s e.thread e.call).state t es w.1 l.1))

pub local_more : (s : State) (t : ℕ) (es : List Entry) (e : Entry) → are_local s t es ≡ true → e.thread ≡ t → is_local (part_of (replay_from s es) t) e.call ≡ true → are_local s t (es ++ e ∷ []) ≡ true
local_more s t [] e h w l = both _ _ (eq-eqb e.thread t w) (both _ _ l refl)
local_more s t (d ∷ es) e h w l =
    let p = and_parts _ _ h in let q = and_parts _ _ p.1 in
    both _ _ p.0 (both _ _ q.0 (local_more (step s d.thread d.call).state t es e q.1 w l))

pub ready_replay : (s : State) (t : ℕ) (es : List Entry) → IsReady s t → IsReady (replay_from s es) t
ready_replay s t [] r = r
ready_replay s t (e ∷ es) r = ready_replay (step s e.thread e.call).state t es (ready-step s t e.thread e.call r)

-- ---- Own calls come late: es stands for all that the thread had seen and entries of others, d is the driver from which its part is out, p the part.
pub record IsLate (o : State) (n : ℕ) (away : List Bool) (d : State) (es tail : List Entry) (p : Private) : Type 0 where
  pub legal : IsLegalFrom o (es ++ tail)
  pub local : are_local (replay_from o es) n tail ≡ true
  pub driver : d ≡ hide (outs away) (replay_from o (es ++ tail))
  pub part : p ≡ part_of (replay_from o (es ++ tail)) n
  pub fits : FitsThread d n p

late_at : (o : State) (n : ℕ) (away : List Bool) (d : State) (seen between tail : List Entry) (p : Private) → IsReady o n → AreOfOthers n between → IsLegalFrom o (seen ++ between) → IsLegalFrom o (seen ++ tail)
    → are_local (replay_from o seen) n tail ≡ true → p ≡ part_of (replay_from o (seen ++ tail)) n → d ≡ hide (outs away) (replay_from o (seen ++ between)) → get_or away n false ≡ true → IsLate o n away d (seen ++ between) tail p
late_at o n away d seen between tail p r others h k l part driver out =
    let a = replay_from o seen in
    let ra = ready_replay o n seen r in
    let w = of_thread a n tail l in
    let local = each_local a n tail l in
    let le = late_entry part_of is_local (λ q c. (locally q c).reply) part_after IsReady has_frame a n between tail ra others (legal_rest o seen between h) w (legal_rest o seen tail k) local in
    let b = replay_from o (seen ++ between) in
    let ab : b ≡ replay_from a between = replay_from-append o seen between in
    let after : replay_from o ((seen ++ between) ++ tail) ≡ replay_from b tail = replay_from-append o (seen ++ between) tail in
    let late : AreLocalFrom part_of is_local b n tail =
    subst (λ (s : State). AreLocalFrom part_of is_local s n tail) (sym ab) (late_local part_of is_local (λ q c. (locally q c).reply) part_after IsReady has_frame a n between tail ra others w (legal_rest o seen tail k) local) in
    let rb = ready_replay o n (seen ++ between) r in
    let same : p ≡ part_of (replay_from o ((seen ++ between) ++ tail)) n =
    part ∙ ap (λ (s : State). part_of s n) (replay_from-append o seen tail) ∙ sym le.1
    ∙ ap (λ (s : State). part_of s n) (sym (replay_from-append o seen (between ++ tail)) ∙ ap (replay_from o) (sym (append_assoc seen between tail))) in
    record {
      legal = subst (IsLegalFrom o) (sym (append_assoc seen between tail)) (IsLegalFrom-append o seen (between ++ tail) (legal_first o seen between h) le.0);
      local = test_local b n tail w late;
      driver = driver ∙ sym (tail_stays b n away tail rb out w late) ∙ ap (hide (outs away)) (sym after);
      part = same;
      fits = subst (λ (z : State). FitsThread z n p) (sym driver)
          (subst (λ (q : Private). FitsThread (hide (outs away) b) n q) (ap (λ (s : State). part_of s n) (sym after) ∙ sym same) (tail_fits b n away tail rb out w late));
    }

pub comes_late : (o : State) (n : ℕ) (away : List Bool) (d : State) (es seen between tail : List Entry) (p : Private) → es ≡ seen ++ between → IsReady o n → AreOfOthers n between → IsLegalFrom o es → IsLegalFrom o (seen ++ tail)
    → are_local (replay_from o seen) n tail ≡ true → p ≡ part_of (replay_from o (seen ++ tail)) n → d ≡ hide (outs away) (replay_from o es) → get_or away n false ≡ true → IsLate o n away d es tail p
comes_late o n away d es seen between tail p is r others h k l part driver out =
    subst (λ (l : List Entry). IsLate o n away d l tail p) (sym is)
    (late_at o n away d seen between tail p r others (subst (IsLegalFrom o) is h) k l part (driver ∙ ap (λ (l : List Entry). hide (outs away) (replay_from o l)) is) out)

-- what is out of the driver stays out while the thread's own calls wait to be handed in
pub stays_out : (o : State) (n : ℕ) (away : List Bool) (es tail : List Entry) → IsReady o n → are_local (replay_from o es) n tail ≡ true → get_or away n false ≡ true
    → hide (outs away) (replay_from o (es ++ tail)) ≡ hide (outs away) (replay_from o es)
stays_out o n away es tail r l out =
    let b = replay_from o es in
    ap (hide (outs away)) (replay_from-append o es tail) ∙ tail_stays b n away tail (ready_replay o n es r) out (of_thread b n tail l) (each_local b n tail l)

-- ---- The state that a history starts at.
pub sound_at : (ws : List WindowValue) (video : ℕ) → All IsWindow ws → IsSound (record (opening [] video) { windows = ws })
sound_at ws video sides =
    let k = sound-opening [] refl video in
    let s : State = record (opening [] video) { windows = ws } in
    let w : IsWhole (shapes s.objects) s =
    record {
      kinds = record { handles = k.whole.kinds.handles; threads = k.whole.kinds.threads; objects = k.whole.kinds.objects };
      storages = record { each = k.whole.storages.each };
      thawed = k.whole.thawed;
      sides = sides_of_none ws;
      alone = record { contexts = k.whole.alone.contexts; surfaces = k.whole.alone.surfaces };
      both = record { draw = k.whole.both.draw; read = k.whole.both.read };
      numbers = record { next = k.whole.numbers.next; handles = k.whole.numbers.handles; apart = k.whole.numbers.apart; context = k.whole.numbers.context; draw = k.whole.numbers.draw; read = k.whole.numbers.read };
    } in
    record { litter = record { each = k.litter.each }; linked = linked_from s w; whole = w; full = record { each = λ n. tt; windows = sides }; pixels = k.pixels }

pub ready_at : (ws : List WindowValue) (video n : ℕ) → All IsWindow ws → n < 65536 → IsReady (record (opening [] video) { windows = ws }) n
unfolding capacity
ready_at ws video n sides h = record { sound = sound_at ws video sides; thread = let e = length-replicate capacity initial in omega (arith, e, h) }
