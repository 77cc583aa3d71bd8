-- SUBSCRIBE and UNSUBSCRIBE: an object is told of another one.
use Rattle.std.specs.Prelude.{ℕ, ◌==◌, ◌&&◌, not, List, [], ◌∷◌, ◌++◌, Bool, true, false, Option, Some, None, map}
use Rattle.std.specs.Prelude.{filter, is_some, is_none, codes, if◌then◌else◌}
use Rattle.std.specs.List.{list_any}
use Rattle.std.specs.Ordering.{nat_cmp}
use Rattle.plane_words.specs.InOrder.{ordered}
use Rattle.ubus_frames.specs.declared.frame.Frame.{Frame}
use Rattle.ubus_acl.specs.Acl.{may_subscribe}
use Rattle.ubus_table.specs.Table.{Table, Client, Object, Subscription, no_client, object_of, owner_of, is_owned}
use Rattle.ubus_table.specs.Table.{path_of}
use Rattle.ubus_table.specs.Frames.{Sent, answer, to_owner, active}
use Rattle.ubus_table.specs.Refusal.{Refusal, numbered, denial, Step, says, refuses}

abbrev pub same_subscription : Subscription → Subscription → Bool
same_subscription one other = one.subscriber == other.subscriber && one.target == other.target

abbrev pub has_subscription : List Subscription → Subscription → Bool
has_subscription subscriptions subscription = list_any (same_subscription subscription) subscriptions

-- the subscribers of an object, by rising number
abbrev pub subscribers_of : List Subscription → ℕ → List ℕ
subscribers_of subscriptions target =
    ordered nat_cmp (map (λ (s : Subscription). s.subscriber)
    (filter (λ (s : Subscription). s.target == target) subscriptions))

-- what an object is subscribed to, by rising number
abbrev pub targets_of : List Subscription → ℕ → List ℕ
targets_of subscriptions subscriber =
    ordered nat_cmp (map (λ (s : Subscription). s.target)
    (filter (λ (s : Subscription). s.subscriber == subscriber) subscriptions))

-- nobody is subscribed to the object
abbrev pub is_alone : List Subscription → ℕ → Bool
is_alone subscriptions target = not (list_any (λ (s : Subscription). s.target == target) subscriptions)

abbrev pub without : List Subscription → Subscription → List Subscription
without subscriptions subscription = filter (λ other. not (same_subscription subscription other)) subscriptions

-- the owner of an object is told that its first subscriber came, or that its last one went
abbrev pub activity : (Frame → Bool) → Table → ℕ → Bool → List Sent
activity fits table target flag = to_owner fits (owner_of table target) (active target flag)

-- A new subscription is kept once.
abbrev pub subscribed : (Frame → Bool) → Table → Client → Frame → Subscription → Step
subscribed fits table client request subscription =
    if has_subscription table.subscriptions subscription
    then says table (answer client.number request 0 ∷ [])
    else says (record table { subscriptions = table.subscriptions ++ subscription ∷ [] })
    (answer client.number request 0
    ∷ (if is_alone table.subscriptions subscription.target then activity fits table subscription.target true
    else []))

-- both objects are there
abbrev pub subscribes_both : (Frame → Bool) → Table → Client → Frame → Object → Object → Step
subscribes_both fits table client request subscriber target =
    if target.owner == no_client then refuses fits table client.number request (numbered 4)
    else (if not (subscriber.owner == client.number)
    then refuses fits table client.number request (denial (codes "subscribe") (path_of subscriber))
    else (if not (may_subscribe client.user client.group (path_of target) table.acl)
    then refuses fits table client.number request (denial (codes "subscribe") (path_of target))
    else subscribed fits table client request (record { subscriber = subscriber.number; target = target.number })))

abbrev pub subscribes_found : (Frame → Bool) → Table → Client → Frame → Option Object → Option Object → Step
subscribes_found fits table client request None target = refuses fits table client.number request (numbered 4)
subscribes_found fits table client request (Some subscriber) None =
    refuses fits table client.number request (numbered 4)
subscribes_found fits table client request (Some subscriber) (Some target) =
    subscribes_both fits table client request subscriber target

abbrev pub subscribes_named : (Frame → Bool) → Table → Client → Frame → Option ℕ → Option ℕ → Step
subscribes_named fits table client request None target = refuses fits table client.number request (numbered 2)
subscribes_named fits table client request (Some subscriber) None =
    refuses fits table client.number request (numbered 2)
subscribes_named fits table client request (Some subscriber) (Some target) =
    subscribes_found fits table client request (object_of table subscriber) (object_of table target)

-- SUBSCRIBE: 2 without OBJID or TARGET; 4 where one is not there, or the target is no client's; 6 where OBJID is
-- another's, or the access list says so
abbrev pub subscribes : (Frame → Bool) → Table → Client → Frame → Step
subscribes fits table client request = subscribes_named fits table client request request.id request.target

-- a subscription ends
abbrev pub unsubscribed : (Frame → Bool) → Table → Client → Frame → Subscription → Step
unsubscribed fits table client request subscription =
    if has_subscription table.subscriptions subscription && is_owned table subscription.subscriber client.number
    then (let left = without table.subscriptions subscription in
    says (record table { subscriptions = left })
    (answer client.number request 0
    ∷ (if is_alone left subscription.target then activity fits table subscription.target false else [])))
    else refuses fits table client.number request (numbered 4)

abbrev pub unsubscribes_named : (Frame → Bool) → Table → Client → Frame → Option ℕ → Option ℕ → Step
unsubscribes_named fits table client request None target = refuses fits table client.number request (numbered 2)
unsubscribes_named fits table client request (Some subscriber) None =
    refuses fits table client.number request (numbered 2)
unsubscribes_named fits table client request (Some subscriber) (Some target) =
    unsubscribed fits table client request (record { subscriber = subscriber; target = target })

-- UNSUBSCRIBE: 2 without OBJID or TARGET; 4 where the client has no such subscription
abbrev pub unsubscribes : (Frame → Bool) → Table → Client → Frame → Step
unsubscribes fits table client request = unsubscribes_named fits table client request request.id request.target
