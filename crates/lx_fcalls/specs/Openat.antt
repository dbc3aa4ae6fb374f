-- openat(dirfd, path, flags, mode): open(2). Modes are those of the file tree, so mode is not looked at.
use Rattle.std.specs.Prelude.{ℕ, ◌==◌, ◌&&◌, not, Bool, List, [], if◌then◌else◌}
use Rattle.std.specs.FinMap as maps
use Rattle.lx_abi.specs.Errnos.{enoent, eexist, enotdir, eisdir, einval, emfile, enospc}
use Rattle.containers.specs.Vacant.{vacant}
use Rattle.lx_abi.specs.declared.log.Call.{Call}
use Rattle.lx_abi.specs.declared.outcome.Node.TheVariants.{File}
use Rattle.lx_model.specs.Machine.{Refused, Returns}
use Rattle.lx_files.specs.Places.{path_of, seen, place}
use Rattle.lx_files.specs.Trees.{created, with_content, has_room}
use Rattle.lx_files.specs.declared.places.Place.{Place}
use Rattle.lx_files.specs.declared.places.Lookup.{Lookup}
use Rattle.lx_files.specs.declared.places.Lookup.TheVariants.{Absent, IsFile, IsDirectory, NotDirectory}
use Rattle.lx_files.specs.declared.tree.Tree.{Tree}
use Rattle.lx_open.specs.declared.description.Description.{Description}
use Rattle.lx_open.specs.declared.description.Object.TheVariants.{Opened}
use Rattle.lx_open.specs.Opens as opens
use Rattle.lx_proc.specs.Answers.{Answers, argument, low_argument, unless, given}
use Rattle.lx_proc.specs.declared.state.UserState.{UserState}
use Rattle.lx_proc.specs.declared.state.Shared.{Shared}
use Rattle.lx_fcalls.specs.Arguments.{at_place}
use Rattle.lx_fcalls.specs.Flags.{is_within, has, o_creat, o_excl, o_trunc, o_append, o_cloexec, open_flags}
use Rattle.lx_fcalls.specs.Flags.{access_of}

abbrev pub opening : ℕ → ℕ → Description
opening node flags = record {
  object = Opened node;
  offset = 0;
  may_read = not (access_of flags == 1);
  may_write = not (access_of flags == 0);
  appends = has flags o_append;
}

abbrev pub opens_node : Shared → ℕ → UserState → ℕ → Tree → ℕ → ℕ → Answers
opens_node s p b flags tree node fd =
    Returns (record s {
      tree = tree;
      fds = opens.opened s.fds p fd (opening node flags) (has flags o_cloexec);
    }) b fd

abbrev pub emptied_if : Bool → Tree → ℕ → Tree
emptied_if empties tree node = if empties then with_content tree node (λ old. []) else tree

abbrev pub opens_file : Shared → ℕ → UserState → ℕ → List ℕ → Answers
opens_file s p b flags path =
    unless (not (has flags o_creat && has flags o_excl)) eexist
    (given (opens.free s.fds.slots p) emfile (λ fd.
    given (maps.get s.tree.names path) enoent (λ node.
    opens_node s p b flags (emptied_if (has flags o_trunc) s.tree node) node fd)))

abbrev pub opens_new : Shared → ℕ → UserState → ℕ → Bool → List ℕ → Answers
opens_new s p b flags slashed path =
    unless (has flags o_creat) enoent
    (unless (not slashed) eisdir
    (given (opens.free s.fds.slots p) emfile (λ fd.
    unless (has_room s.tree) enospc
    (opens_node s p b flags (created s.tree path (File [])) (vacant s.tree.nodes) fd))))

abbrev pub opens_seen : Shared → ℕ → UserState → ℕ → Place → Lookup → Answers
opens_seen s p b flags place Absent = opens_new s p b flags place.slashed (path_of place)
opens_seen s p b flags place IsFile = opens_file s p b flags (path_of place)
opens_seen s p b flags place IsDirectory = Refused eisdir
opens_seen s p b flags place NotDirectory = Refused enotdir

abbrev pub opens_at : Shared → ℕ → UserState → ℕ → Place → Answers
opens_at s p b flags place = opens_seen s p b flags place (seen s.tree place)

unfoldable pub openat : Shared → ℕ → Call → UserState → Answers
openat s p call b =
    let flags = argument call 2 in
    unless (is_within flags open_flags && not (access_of flags == 3)) einval
    (at_place s p b (low_argument call 0) (argument call 1) (opens_at s p b flags))
