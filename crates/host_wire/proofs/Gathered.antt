-- Bytes that were read for a frame, and a read more.
use Rattle.std.proofs.Common.{◌≡◌, ℕ, ◌<◌, ◌≤◌, ◌+◌, Bool, true, false, List, [], ◌∷◌, ◌++◌, length, take, Option, Some, None, Ok, Err, refl, sym, ap, subst, ◌∙◌, inl, inr, append_assoc, append-nil, arith}
use Rattle.std.specs.List.{All, sum}
use Rattle.std.specs.Option.{option_to_list}
use Rattle.std.specs.Io.KnownBytes.{Consumes, Keeps, IsAtEnd}
use Rattle.std.proofs.KnownBytes.{Consumes-nil, Consumes-trans, Consumes-kept}
use Rattle.std.proofs.lemmas.List.{length-append, length-take-le}
use Rattle.std.proofs.lemmas.List.Elements.{All-nil, All-cons, All-head, All-tail, All-append}
use Rattle.std.proofs.lemmas.List.Sums.{sum_by-append, sum_by-cons}
use Rattle.host_frame.specs.declared.frame.Frame.{Frame}
use Rattle.host_frame.specs.declared.fault.WireFault.{WireFault}
use Rattle.host_wire.specs.declared.receiving.ReceiveFault.{ReceiveFault}
use Rattle.host_wire.specs.declared.receiving.ReceiveFault.TheVariants.{Read, Wire}
use Rattle.host_wire.specs.Ends.{Input}
use Rattle.host_wire.specs.Receiving.{ReadOnce, Receiving, Received}
use Rattle.host_wire.specs.Streams.{Stream, Feeding, Going, Failed, FailsAs, HasOne, fed, as_stream, goes_on, missing_of}
use Rattle.host_wire.proofs.Streams.{goes_on-append}

-- ---- sums

sum_push : (xs : List ℕ) (n : ℕ) → sum (xs ++ n ∷ []) ≡ sum xs + n
sum_push xs n = sum_by-append (λ x. x) xs (n ∷ []) ∙ omega arith

-- what gives something each time gives at least once as much
pub few_times : (xs : List ℕ) → All (λ n. 1 ≤ n) xs → length xs ≤ sum xs
few_times [] some = omega arith
few_times (x ∷ xs) some = omega (arith, sum_by-cons (λ y. y) x xs, All-head (λ n. 1 ≤ n) x xs some, few_times xs (All-tail (λ n. 1 ≤ n) x xs some))

-- ---- one read

pub failed_once : (a b : Input) (feed : Feeding) → Keeps a.remaining b.remaining → b.reads ≡ a.reads ++ 0 ∷ [] → b.broken ≡ 1 → ReadOnce a feed (Err Read) b feed
unfolding goes_on
failed_once a b feed kept counted is = record { came = []; consumed = Consumes-kept a.remaining a.remaining b.remaining [] (Consumes-nil a.remaining) kept; counted = counted; few = λ _. tt; so = (refl, refl, is) }

pub ended_once : (a b : Input) (feed : Feeding) (count : ℕ) (into : List ℕ) → count ≡ 0 → 0 < length into → Consumes a.remaining b.remaining (take count into) × (count ≡ 0 → 0 < length into → IsAtEnd b.remaining)
    → b.reads ≡ a.reads ++ count ∷ [] → ReadOnce a feed (Ok false) b feed
unfolding goes_on
ended_once a b feed count into zero room c counted = record {
  came = [];
  consumed = subst (λ (n : ℕ). Consumes a.remaining b.remaining (take n into)) zero c.0;
  counted = subst (λ (n : ℕ). b.reads ≡ a.reads ++ n ∷ []) zero counted;
  few = λ none. inl none;
  so = (refl, refl, c.1 zero room);
}

pub read_once : (a b : Input) (before after : Feeding) (count : ℕ) (into piece : List ℕ) → piece ≡ take count into → 0 < count → count ≤ length into → length into ≤ missing_of before.under_way → Consumes a.remaining b.remaining (take count into)
    → b.reads ≡ a.reads ++ count ∷ [] → fed before piece ≡ as_stream after → (before.ready ≡ [] → length piece ≤ missing_of before.under_way → HasOne after) → ReadOnce a before (Ok true) b after
read_once a b before after count into piece is some within short c counted fed_is few =
    let len : length piece ≡ count = ap length is ∙ length-take-le count into within in
    record {
      came = piece;
      consumed = subst (Consumes a.remaining b.remaining) (sym is) c;
      counted = subst (λ (n : ℕ). b.reads ≡ a.reads ++ n ∷ []) (sym len) counted;
      few = λ none. few none (omega (arith, len, within, short));
      so = (fed_is, omega (arith, len, some));
    }

pub faulted_once : (a b : Input) (before after : Feeding) (count : ℕ) (into piece : List ℕ) (fault : WireFault) → piece ≡ take count into → count ≤ length into → Consumes a.remaining b.remaining (take count into)
    → b.reads ≡ a.reads ++ count ∷ [] → FailsAs Failed fault (fed before piece) → ReadOnce a before (Err (Wire fault)) b after
faulted_once a b before after count into piece fault is within c counted fails =
    let len : length piece ≡ count = ap length is ∙ length-take-le count into within in
    record {
      came = piece;
      consumed = subst (Consumes a.remaining b.remaining) (sym is) c;
      counted = subst (λ (n : ℕ). b.reads ≡ a.reads ++ n ∷ []) (sym len) counted;
      few = λ _. tt;
      so = fails;
    }

-- ---- reads so far, counter of them

pub record ReadSoFar (a b : Input) (before after : Feeding) (counter : ℕ) : Type 0 where
  pub came : List ℕ
  pub reads : List ℕ
  pub made : b.reads ≡ a.reads ++ reads
  pub whole : sum reads ≡ length came
  pub counted : length reads ≡ counter
  pub some : All (λ n. 1 ≤ n) reads
  pub consumed : Consumes a.remaining b.remaining came
  pub so : fed before came ≡ as_stream after
  pub none : after.ready ≡ []

-- and one more
further : {most : ℕ} {a b c : Input} {f g : Feeding} {n : ℕ} (came : List ℕ) → n < most → (s : ReadSoFar a b f g n) → Consumes b.remaining c.remaining came → c.reads ≡ b.reads ++ length came ∷ [] → Receiving most a c (s.came ++ came)
further {a = a} {b = b} {c = c} came room s consumed counted = record {
  reads = s.reads ++ length came ∷ [];
  made = counted ∙ ap (λ (xs : List ℕ). xs ++ length came ∷ []) s.made ∙ append_assoc a.reads s.reads (length came ∷ []);
  whole = sum_push s.reads (length came) ∙ ap (λ (n : ℕ). n + length came) s.whole ∙ sym (length-append s.came came);
  few = omega (arith, length-append s.reads (length came ∷ []), s.counted, room);
  consumed = Consumes-trans a.remaining b.remaining c.remaining s.came came s.consumed consumed;
}

fed-append : (f g : Feeding) (xs ys : List ℕ) → fed f xs ≡ as_stream g → fed f (xs ++ ys) ≡ fed g ys
fed-append f g xs ys e = goes_on-append (as_stream f) xs ys ∙ ap (λ (s : Stream). goes_on s ys) e

ready_of : {fs gs : List Frame} {r t : List ℕ} → Going fs r ≡ Going gs t → fs ≡ gs
ready_of e = cc

nothing_came : (f g : Feeding) (came : List ℕ) → came ≡ [] → fed f came ≡ as_stream g → f.ready ≡ [] → g.ready ≡ []
unfolding goes_on
nothing_came f g came empty e none = sym (ready_of (ap (fed f) (sym empty) ∙ e)) ∙ none

-- at the beginning, where nothing waits
pub nothing_read : (a : Input) (f g : Feeding) → f.ready ≡ [] → f.ready ≡ option_to_list None ++ g.ready → g.under_way ≡ f.under_way → ReadSoFar a a f g 0
unfolding goes_on
nothing_read a f g none ready under_way = record {
  came = [];
  reads = [];
  made = sym (append-nil a.reads);
  whole = refl;
  counted = refl;
  some = All-nil (λ n. 1 ≤ n);
  consumed = Consumes-nil a.remaining;
  none = sym ready ∙ none;
  so = ap (λ (fs : List Frame). Going fs f.under_way) ready ∙ ap (Going g.ready) (sym under_way);
}

-- nothing was read
pub unread : {most : ℕ} (a : Input) → Receiving most a a []
unread a = record { reads = []; made = sym (append-nil a.reads); whole = refl; few = omega arith; consumed = Consumes-nil a.remaining }

-- a frame that waited
pub waited : {most : ℕ} (a : Input) (f g : Feeding) (frame : Frame) → f.ready ≡ option_to_list (Some frame) ++ g.ready → g.under_way ≡ f.under_way → Received most a f (Ok (Some frame)) a g
unfolding goes_on
waited a f g frame ready under_way = record {
  came = [];
  received = unread a;
  so = ap (λ (fs : List Frame). Going fs f.under_way) ready ∙ ap (Going (frame ∷ g.ready)) (sym under_way);
}

pub read_failed : {most : ℕ} {a b c : Input} {f g h : Feeding} {n : ℕ} (fault : ReceiveFault) → n < most → ReadSoFar a b f g n → ReadOnce b g (Err fault) c h → Received most a f (Err fault) c h
read_failed {f = f} {g} {h} Read room s r = record {
  came = s.came ++ r.came;
  received = further r.came room s r.consumed r.counted;
  so = (fed-append f g s.came r.came s.so ∙ r.so.0, nothing_came g h r.came r.so.1 r.so.0 s.none, inl r.so.2);
}
read_failed {f = f} {g} {h} (Wire fault) room s r = record {
  came = s.came ++ r.came;
  received = further r.came room s r.consumed r.counted;
  so = subst (FailsAs Failed fault) (sym (fed-append f g s.came r.came s.so)) r.so;
}

pub read_ended : {most : ℕ} {a b c : Input} {f g h : Feeding} {n : ℕ} (more : Bool) → more ≡ false → n < most → ReadSoFar a b f g n → ReadOnce b g (Ok more) c h → Received most a f (Ok None) c h
read_ended true e room s r = absurd cc
read_ended {f = f} {g} {h} false e room s r = record {
  came = s.came ++ r.came;
  received = further r.came room s r.consumed r.counted;
  so = (fed-append f g s.came r.came s.so ∙ r.so.0, nothing_came g h r.came r.so.1 r.so.0 s.none, r.so.2);
}

pub read_frame : {most : ℕ} {a b c : Input} {f g h k : Feeding} {n : ℕ} (more : Bool) (frame : Frame) → more ≡ true → n < most → ReadSoFar a b f g n → ReadOnce b g (Ok more) c h
    → h.ready ≡ option_to_list (Some frame) ++ k.ready → k.under_way ≡ h.under_way → Received most a f (Ok (Some frame)) c k
read_frame false frame e room s r ready under_way = absurd cc
read_frame {f = f} {g} {h} {k} true frame e room s r ready under_way = record {
  came = s.came ++ r.came;
  received = further r.came room s r.consumed r.counted;
  so = fed-append f g s.came r.came s.so ∙ r.so.0 ∙ ap (λ (fs : List Frame). Going fs h.under_way) ready ∙ ap (Going (frame ∷ k.ready)) (sym under_way);
}

pub read_more : {a b c : Input} {f g h k : Feeding} {n : ℕ} (more : Bool) → more ≡ true → ReadSoFar a b f g n → ReadOnce b g (Ok more) c h
    → h.ready ≡ [] → h.ready ≡ option_to_list None ++ k.ready → k.under_way ≡ h.under_way → ReadSoFar a c f k (n + 1)
unfolding further
read_more false e s r none ready under_way = absurd cc
read_more {a} {b} {c} {f} {g} {h} {k} {n} true e s r none ready under_way =
    let all : Receiving (n + 1) a c (s.came ++ r.came) = further r.came (omega arith) s r.consumed r.counted in
    record {
      came = s.came ++ r.came;
      reads = s.reads ++ length r.came ∷ [];
      made = all.made;
      whole = all.whole;
      counted = omega (arith, length-append s.reads (length r.came ∷ []), s.counted);
      some = All-append (λ m. 1 ≤ m) s.reads (length r.came ∷ []) s.some (All-cons (λ m. 1 ≤ m) (length r.came) [] r.so.1 (All-nil (λ m. 1 ≤ m)));
      consumed = all.consumed;
      so = fed-append f g s.came r.came s.so ∙ r.so.0 ∙ ap (λ (fs : List Frame). Going fs h.under_way) ready ∙ ap (Going k.ready) (sym under_way);
      none = sym ready ∙ none;
    }

-- as many reads as may be
pub read_enough : {most : ℕ} {a b : Input} {f g : Feeding} {n : ℕ} → n ≤ most → most ≤ n → ReadSoFar a b f g n → Received most a f (Err Read) b g
read_enough few many s = record {
  came = s.came;
  received = record { reads = s.reads; made = s.made; whole = s.whole; few = omega (arith, few, s.counted); consumed = s.consumed };
  so = (s.so, s.none, inr (omega (arith, few, many, s.counted), s.some));
}
