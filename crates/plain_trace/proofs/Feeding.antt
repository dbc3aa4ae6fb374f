-- What a decoder is given.
use Rattle.std.proofs.Common.{◌≡◌, ◌∙◌, ℕ, zero, suc, List, [], ◌∷◌, ◌++◌, Option, Some, None, refl, sym, ap}
use Rattle.lx_abi.specs.Log.{Note}
use Rattle.lx_kernel.specs.Tracing.{peek_of}
use Rattle.lx_model.specs.declared.stage.Task.{Task}
use Rattle.lx_model.specs.declared.stage.Task.TheVariants.{Alive, Dying, Gone}
use Rattle.lx_proc.specs.declared.state.UserState.{UserState}
use Rattle.lx_turn.specs.Linux.{linux}
use Rattle.plain_run.specs.Notes.{note_at}
use Rattle.pt_model.specs.Parts.{Half}
use Rattle.pt_model.specs.View.{read_on as half_read_on, reads}
use Rattle.tr_args.specs.Arguments.{half as shown_half, wish_of}
use Rattle.tr_args.specs.Decoders.{Decoding, given, started, wants}
use Rattle.tr_args.specs.Reads.{texts_of, wants_of}
use Rattle.tr_args.specs.Texts.{context_of}
use Rattle.plain_trace.specs.Reading.{decoded, read_from, read_on}

-- what is there, and what isn't

pub peeked_there : (task : Task UserState) (address length : ℕ) (bytes : List ℕ) → Some bytes ≡ peek_of task address length → bytes ≡ (note_at linux task).peek address length
peeked_there (Alive b stage) address length bytes e = cc e
peeked_there (Dying w) address length bytes e = absurd (cc e)
peeked_there Gone address length bytes e = absurd (cc e)

pub peeked_nothing : (task : Task UserState) (address length : ℕ) → None ≡ peek_of task address length → [] ≡ (note_at linux task).peek address length
peeked_nothing (Alive b stage) address length e = absurd (cc e)
peeked_nothing (Dying w) address length e = refl
peeked_nothing Gone address length e = refl

-- reads of a half

abbrev of_half : ℕ → Half → List (List ℕ) → Decoding
of_half limit half got = record { context = context_of limit half; got = got }

by_wish : (limit : ℕ) (note : Note) (half : Half) (n : ℕ) (got : List (List ℕ))
    → ((more : List (List ℕ)) → read_from note n (of_half limit half more) ≡ of_half limit half (reads (texts_of limit) note.peek half n more))
    → (wish : Option (ℕ × ℕ))
    → read_on (read_from note n) note (of_half limit half got) wish
    ≡ of_half limit half (half_read_on note.peek (reads (texts_of limit) note.peek half n) got wish)
by_wish limit note half n got later None = refl
by_wish limit note half n got later (Some w) = later (got ++ note.peek w.0 w.1 ∷ [])

both : (limit : ℕ) (note : Note) (half : Half) (n : ℕ) (got : List (List ℕ))
    → read_from note n (of_half limit half got) ≡ of_half limit half (reads (texts_of limit) note.peek half n got)
unfolding read_from wants_of
both limit note half zero got = refl
both limit note half (suc n) got =
    by_wish limit note half n got (λ more. both limit note half n more) (wish_of (shown_half (context_of limit half) got))

pub all_read : (limit : ℕ) (note : Note) (half : Half) → read_from note 96 (started (context_of limit half)) ≡ decoded limit note half
unfolding decoded
all_read limit note half = both limit note half 96 []

-- one read more, and none

pub read_more : (note : Note) (n m : ℕ) (d : Decoding) (w : ℕ × ℕ) → Some w ≡ wants d → m ≡ suc n → read_from note m d ≡ read_from note n (given d (note.peek w.0 w.1))
unfolding read_from
read_more note n m d w wish count = ap (λ i. read_from note i d) count ∙ ap (λ x. read_on (read_from note n) note d x) (sym wish)

pub read_none : (note : Note) (n : ℕ) (d : Decoding) → None ≡ wants d → read_from note n d ≡ d
unfolding read_from
read_none note zero d wish = refl
read_none note (suc n) d wish = ap (λ x. read_on (read_from note n) note d x) (sym wish)

pub read_all : (note : Note) (n : ℕ) (d : Decoding) → n ≡ 0 → read_from note n d ≡ d
unfolding read_from
read_all note n d count = ap (λ i. read_from note i d) count
