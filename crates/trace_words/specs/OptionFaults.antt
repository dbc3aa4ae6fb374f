-- What a user reads of an option that is refused: the text, or what it begins with.
use Rattle.std.specs.Prelude.{codes}
use Rattle.front_end.specs.Texts.{IsAbout, Says}
use Rattle.front_end.specs.declared.fault.Fault.{Fault}
use Rattle.trace_words.specs.declared.option_fault.OptionFault.{OptionFault}
use Rattle.trace_words.specs.declared.option_fault.OptionFault.TheVariants as option

abbrev pub IsToldBy : OptionFault → Fault → Type 0
IsToldBy option.Command fault = IsAbout (codes "-o ") fault
IsToldBy option.HostWords fault = Says (codes "--host-arg: without --host there is no host to hand words to") fault
IsToldBy option.HostTime fault = Says (codes "--host-timeout: without --host there is no host to wait for") fault
IsToldBy option.StringLimit fault = IsAbout (codes "-s") fault
IsToldBy option.Limit fault = IsAbout (codes "--limit") fault
IsToldBy option.FollowTwice fault =
    Says (codes "-ff is strace's (writes a file for each process) and not here") fault
IsToldBy option.Column fault = IsAbout (codes "-a") fault
IsToldBy option.WorkersAndHost fault =
    Says (codes "--workers excludes --host: threads of this process make the turns, in an order of their own") fault
IsToldBy option.WorkersAndTurns fault =
    Says (codes "--workers excludes --turns: threads of this process make the turns, in an order of their own") fault
IsToldBy option.Workers fault = IsAbout (codes "--workers") fault
IsToldBy option.WorkersLimit fault = IsAbout (codes "--limit") fault
IsToldBy option.Patience fault = IsAbout (codes "--host-timeout") fault
