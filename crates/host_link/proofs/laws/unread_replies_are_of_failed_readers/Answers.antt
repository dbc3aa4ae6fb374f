use Rattle.host_link.proofs.Replies.{unread}
use Rattle.host_link.proofs.laws.unread_replies_are_of_failed_readers.Goals as goal

pub returns : goal.returns
returns c = unread c.bytes_without_a_frame_are_few.ensures
